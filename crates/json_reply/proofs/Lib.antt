pub mod CallerLemmas
mod Listing
mod Rising
