pub mod Packed
pub mod SmallValues
pub mod Strips
pub mod BlockForms
pub mod Seeks
