mod Follows
mod GivenIds
mod Known
mod KnownLemmas
mod NameLemmas
mod NameReads
mod NotedLemmas
mod StepKeeps
pub mod CallerLemmas
