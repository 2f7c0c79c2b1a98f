pub mod Searches
pub mod Frames
mod Settling
