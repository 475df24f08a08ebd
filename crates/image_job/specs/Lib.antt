pub mod ImageTexts
pub mod ImageJobs
