pub mod Totals
pub mod Joins
