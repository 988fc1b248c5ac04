mod Answering
mod Recents
pub mod Tables
