pub mod Aggregation
pub mod Interpolation
pub mod Laws
pub mod Tally
pub mod Walks
pub mod EqualTimes
pub mod FilledGroups
