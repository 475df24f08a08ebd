pub mod ImportedCells
pub mod Compactions
pub mod ImportAnswers
pub mod Changes
pub mod Listings
pub mod Refusals
