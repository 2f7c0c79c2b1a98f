pub mod Writes
pub mod Pages
pub mod RoundTrips
