pub mod DaemonPlays
pub mod Looms
pub mod WovenHistories
