pub mod Afternoons
pub mod Events
pub mod Indexes
pub mod Lines
pub mod Moments
pub mod Texts
pub mod Transactions
