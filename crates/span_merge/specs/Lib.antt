pub mod KeptPoints
pub mod Spans
pub mod Places
