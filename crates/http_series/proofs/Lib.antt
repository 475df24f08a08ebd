mod FaultLemmas
mod Listing
mod LookupLemmas
mod NumberLemmas
mod PointLists
mod PointRuns
mod SeriesLemmas
