pub mod Accepting
pub mod Changes
