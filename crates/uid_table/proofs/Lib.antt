mod ByteOrder
mod Gathering
mod Keeping
mod Making
mod NamesThere
mod Shows
mod NextRows
mod Ranks
mod RowLengths
mod Searches
pub mod CallerLemmas
