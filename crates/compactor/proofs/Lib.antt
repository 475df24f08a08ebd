pub mod CallerLemmas
mod Lower
mod Writes
mod Rows
mod QueueRows
mod Draining
