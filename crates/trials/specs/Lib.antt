pub mod Tally
pub mod Setting
pub mod Format
pub mod Runs
