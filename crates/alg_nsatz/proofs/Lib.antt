pub mod Found
pub mod OneVerdict
pub mod Within
pub mod Tasks
pub mod Right
pub mod Accepted
