pub mod Items
pub mod CellDots
pub mod CellFaults
pub mod Order
pub mod Spelling
pub mod CellSteps
pub mod Merge
pub mod MergeSteps
