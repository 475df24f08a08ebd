pub mod RunFaults
pub mod Inputs
pub mod Outcomes
pub mod OutputText
pub mod BatchQueries
pub mod BatchRuns
pub mod BatchHeadlines
pub mod Statuses
