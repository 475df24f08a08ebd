pub mod CallerLemmas
mod LinkLemmas
