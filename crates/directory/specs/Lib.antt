pub mod Alone
pub mod Plans
pub mod Settling
