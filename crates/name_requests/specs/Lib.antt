pub mod AssignRequests
pub mod RequestFaults
pub mod RequestReading
pub mod SuggestRequests
