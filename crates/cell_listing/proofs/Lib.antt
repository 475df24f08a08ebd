pub mod CallerLemmas
mod Parts
mod Printed
mod PrintedWords
mod ListedParts
mod ListingTurns
