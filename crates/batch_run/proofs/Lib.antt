pub mod CallerLemmas
mod InputEnds
mod InputLemmas
pub mod PlainBatches
mod QueryLemmas
mod RunLemmas
