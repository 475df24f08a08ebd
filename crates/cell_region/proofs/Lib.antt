mod Answered
mod OwnRows
mod RegionSteps
mod RegionSums
mod RegionOrder
