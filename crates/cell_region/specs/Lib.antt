pub mod DividedStore
pub mod RegionLists
