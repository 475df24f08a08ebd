pub mod Aggregators
pub mod Cuts
pub mod Downs
pub mod FilterTexts
pub mod QueryFaultTexts
pub mod Subs
pub mod TestTexts
