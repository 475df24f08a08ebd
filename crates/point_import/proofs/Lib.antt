mod AcceptedLines
mod AskedNames
mod AskedPuts
mod Numbering
pub mod CallerLemmas
