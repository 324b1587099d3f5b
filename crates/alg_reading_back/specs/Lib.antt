pub mod ReadingBack
pub mod ReadingAnswers
