pub mod OperationQueues
pub mod WovenCounts
