pub mod TurnNames
pub mod Turns
pub mod TurnPlaces
pub mod PackedTurns
pub mod Laws
