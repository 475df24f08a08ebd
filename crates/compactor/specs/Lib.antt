pub mod CompactFaults
pub mod Compaction
pub mod Plans
pub mod Queues
pub mod Drains
