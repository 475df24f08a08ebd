mod AllMetrics
mod CompactedRow
mod EndCauses
mod Filled
mod GivenListings
mod IdCells
mod LastPoints
mod Loops
mod NameSteps
mod OneLayout
mod Passes
mod PlacedNames
mod PointCells
mod RefusedLines
mod RowStores
mod Walks
pub mod CallerLemmas
