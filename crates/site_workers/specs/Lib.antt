pub mod ServedSites
