mod Giving
mod LastTaken
mod Points
mod Moving
mod Pieces
mod Serving
mod TalkLemmas
mod Talking
mod Calls
mod GivenMoments
mod HeadlineLemmas
pub mod CallerLemmas
mod CompletingLemmas
