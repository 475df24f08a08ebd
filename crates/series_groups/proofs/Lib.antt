pub mod AnyOf
pub mod Keys
mod Members
pub mod Lists
mod Finishing
mod Filling
pub mod GroupLemmas
mod SeriesLemmas
