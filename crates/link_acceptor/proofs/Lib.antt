mod AcceptLemmas
pub mod CallerLemmas
