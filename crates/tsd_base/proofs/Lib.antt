mod DigitRuns
mod DotsLemmas
mod Groups
mod NamesLemmas
mod Numerals
mod Parts
mod PointLemmas
mod TagLemmas
mod TimesLemmas
pub mod CallerLemmas
pub mod TextReads
