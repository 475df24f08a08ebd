pub mod Packed
pub mod Halves
pub mod Order
mod Spans
mod Strips
