pub mod ElementFaults
pub mod Elements
