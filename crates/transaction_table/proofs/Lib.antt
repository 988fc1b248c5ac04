pub mod Searches
pub mod Shuffles
pub mod Slots
pub mod Writes
