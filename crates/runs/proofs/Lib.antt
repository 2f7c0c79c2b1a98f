mod Follow
pub mod Hearing
mod Premises
