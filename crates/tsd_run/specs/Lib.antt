pub mod RunDevices
pub mod RunCauses
pub mod Runs
pub mod FleetStatuses
pub mod RunPromises
pub mod RunHeadlines
pub mod RunCompletes
