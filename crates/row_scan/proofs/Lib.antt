mod Lower
mod NextRow
mod Turning
mod Starting
mod Turns
mod Whole
mod Counting
mod CellsOf
mod Names
mod OneRow
mod Offsets
mod Covering
mod Accepted
mod Covers
mod PointsAtTimes
pub mod CallerLemmas
