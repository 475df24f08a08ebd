pub mod CallerLemmas
mod Alone
mod Fronts
mod Publishing
