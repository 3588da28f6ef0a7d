pub mod MoreConnections
