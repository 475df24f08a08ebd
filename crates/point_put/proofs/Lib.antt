mod Asking
mod Keying
mod Layouts
mod Outcomes
mod PlacedPuts
mod Tagging
mod TextOutcomes
pub mod CallerLemmas
