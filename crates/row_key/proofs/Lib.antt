mod EachWidth
mod OneWidths
mod Once
mod Comparing
mod Homes
pub mod CallerLemmas
