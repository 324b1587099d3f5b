pub mod Bounds
pub mod Puts
pub mod Tasks
pub mod Verdict
pub mod Answers
pub mod Laws
