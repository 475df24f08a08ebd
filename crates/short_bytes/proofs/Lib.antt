mod Sameness
mod Spelled
pub mod Words
pub mod Filled
pub mod Ends
