pub mod Lines
pub mod Files
pub mod Runs
pub mod Steps
pub mod Programs
pub mod Examples
