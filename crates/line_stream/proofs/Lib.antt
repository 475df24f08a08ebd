pub mod CallerLemmas
mod FirstLines
mod ReaderLemmas
mod SearchLemmas
