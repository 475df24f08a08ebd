pub mod FedEntries
pub mod FedRows
pub mod KeptLines
