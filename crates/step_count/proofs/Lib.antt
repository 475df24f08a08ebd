mod LogLists
mod CallerNumbers
mod FittingHistories
mod Holders
mod WordSteps
mod SeatSteps
mod FirstLicences
mod CounterTurns
pub mod CallerLemmas
