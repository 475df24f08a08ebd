pub mod Causes
pub mod Halts
pub mod Memory
pub mod Takes
pub mod Ticks
