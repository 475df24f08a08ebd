pub mod CallerLemmas
mod Putting
