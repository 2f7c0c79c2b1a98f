pub mod Messages
pub mod Routes
pub mod Families
