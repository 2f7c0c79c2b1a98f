pub mod Bytes
pub mod Fields
pub mod Fronts
pub mod Heads
pub mod Readings
