pub mod Closings
pub mod Lookups
