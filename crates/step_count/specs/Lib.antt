pub mod CounterRule
pub mod ViewSteps
pub mod FirstViews
pub mod Tokens
