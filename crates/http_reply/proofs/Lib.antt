mod Objects
mod Outcomes
mod Writes
