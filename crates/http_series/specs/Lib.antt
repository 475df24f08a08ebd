pub mod ArgumentReading
pub mod ArgumentTexts
pub mod SeriesAnswers
pub mod SeriesReplies
pub mod SeriesRequests
pub mod SeriesTexts
