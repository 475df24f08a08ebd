pub mod LoneStores
pub mod FusedRows
