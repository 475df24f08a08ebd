pub mod Parts
pub mod FilterParts
pub mod Intervals
pub mod AsciiTexts
