pub mod Views
pub mod Arrivals
pub mod Places
