pub mod Scans
pub mod RowReadings
pub mod RowTimes
pub mod Laws
