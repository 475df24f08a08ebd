pub mod DueRows
pub mod Upkeep
