pub mod States
pub mod Rows
pub mod ProtocolKinds
pub mod Tables
pub mod Laws
