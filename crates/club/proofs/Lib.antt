mod Agreements
mod Indexes
mod Lines
mod Moments
mod Recalculations
mod TextLines
mod Texts
pub mod Afternoons
