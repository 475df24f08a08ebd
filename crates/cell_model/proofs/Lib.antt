mod Stores
mod Shown
mod Following
mod Stamps
mod KindLemmas
pub mod CallerLemmas
