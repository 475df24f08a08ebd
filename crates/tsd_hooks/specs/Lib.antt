pub mod AllowedNames
pub mod PointText
pub mod FedPoints
