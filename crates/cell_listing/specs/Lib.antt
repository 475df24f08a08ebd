pub mod Cuts
pub mod Grammar
pub mod ListedLines
pub mod ListingReads
pub mod Laws
