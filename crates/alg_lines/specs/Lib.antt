pub mod Lines
pub mod AnswerTerms
pub mod Accepting
pub mod Constants
