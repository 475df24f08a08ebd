pub mod FleetRuns
