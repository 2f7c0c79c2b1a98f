pub mod Writes
pub mod Bytes
