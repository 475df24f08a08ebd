pub mod CallerLemmas
mod PutLemmas
mod RequestLemmas
