pub mod LoneConnections
pub mod Publications
pub mod FedConnections
