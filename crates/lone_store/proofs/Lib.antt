pub mod CallerLemmas
mod EmptyStores
mod Stops
