pub mod Lines
pub mod Searched
pub mod LineReadings
pub mod Reads
