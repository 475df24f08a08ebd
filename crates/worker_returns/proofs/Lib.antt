mod GatheringLemmas
pub mod CallerLemmas
