pub mod Dumps
pub mod Gifts
pub mod NameRanks
pub mod RowLines
pub mod RowPlaces
pub mod BestDots
pub mod RowPoints
