mod GivenTold
mod OneText
pub mod CallerLemmas
