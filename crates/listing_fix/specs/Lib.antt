pub mod Fixes
pub mod Steps
pub mod Sorts
pub mod Laws
