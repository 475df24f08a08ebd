pub mod TableRows
pub mod Counting
pub mod Whole
