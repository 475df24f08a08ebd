pub mod WidthWords
pub mod CommandWords
pub mod PlainAsked
