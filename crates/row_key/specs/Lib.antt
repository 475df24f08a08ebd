pub mod IdWidths
pub mod Made
pub mod Key
pub mod KeyOrder
pub mod Regions
