pub mod Procedures
pub mod Updates
