pub mod ListingJobs
pub mod Shows
