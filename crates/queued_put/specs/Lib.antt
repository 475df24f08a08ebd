pub mod PutRows
pub mod QueuedPuts
