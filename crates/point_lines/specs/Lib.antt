pub mod NameIds
pub mod LinePoints
pub mod OpenRules
pub mod LoneHistories
