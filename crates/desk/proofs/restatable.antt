pub mod PackedSheets
pub mod RestateAnswers
