mod TextEntries
mod TextRuns
pub mod CallerLemmas
