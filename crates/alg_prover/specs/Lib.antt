pub mod Answers
pub mod Examples
pub mod InFree
pub mod Laws
