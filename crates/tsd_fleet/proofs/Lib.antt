mod FleetHistories
mod FleetLines
