pub mod Refusals
pub mod Geometries
pub mod BlockWords
pub mod Parties
