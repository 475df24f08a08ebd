mod Lower
mod SeenViews
mod RegionEntries
mod StampedSteps
mod GreaterViews
mod JoinedEnds
mod UnopenedRegions
mod FiveNumbers
mod RegionRuns
pub mod CallerLemmas
