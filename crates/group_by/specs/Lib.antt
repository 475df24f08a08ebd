pub mod TagFilters
pub mod Shared
pub mod Wildcards
