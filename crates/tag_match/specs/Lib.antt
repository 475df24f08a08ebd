pub mod Patterns
pub mod TestPatterns
pub mod Building
