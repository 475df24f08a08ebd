pub mod Devices
pub mod FleetStands
pub mod FleetServes
