pub mod Laws
pub mod Examples
pub mod StoreParts
pub mod PartLaws
pub mod JoinedParts
