pub mod RowMaps
pub mod Pages
pub mod PagePlaces
pub mod LentRows
