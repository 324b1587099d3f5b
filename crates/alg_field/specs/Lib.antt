pub mod Lists
pub mod Rules
pub mod Constants
pub mod Within
pub mod Fractions
pub mod Answers
pub mod Laws
pub mod TestTerms
