mod Lower
pub mod NameReads
pub mod TagNames
pub mod NameIds
pub mod ScanSteps
mod FoundKeys
mod Passing
pub mod WalkSteps
mod RowsBegun
pub mod WalkTurns
mod PairOrder
mod IdSets
mod SomeOf
mod Jumps
mod SkipSteps
mod TextLemmas
