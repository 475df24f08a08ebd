mod Plays
mod Openings
mod Placing
mod Packing
mod Sights
mod RowNames
pub mod CallerLemmas
