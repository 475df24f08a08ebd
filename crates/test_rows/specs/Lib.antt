pub mod Facts
pub mod Merges
pub mod Puts
pub mod Sharing
pub mod Bases
