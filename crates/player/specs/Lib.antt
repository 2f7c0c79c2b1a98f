pub mod Contents
pub mod Calls
pub mod Lines
pub mod Plays
pub mod Coherently
pub mod Examples
pub mod PickedAs
