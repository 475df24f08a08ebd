pub mod WorkedSites
