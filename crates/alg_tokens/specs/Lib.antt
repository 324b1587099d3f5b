pub mod Codes
pub mod Spelling
pub mod Pieces
pub mod Runs
pub mod Next
pub mod Laws
