pub mod Answering
pub mod Pieces
pub mod Programs
mod Reading
pub mod Running
