pub mod Waiting
pub mod Picks
pub mod Lines
pub mod Within
