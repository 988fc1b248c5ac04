pub mod Lists
pub mod Meanings
mod Logs
mod Closings
