pub mod Limits
pub mod Loaded
