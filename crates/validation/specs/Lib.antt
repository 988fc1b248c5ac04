pub mod Faults
pub mod Stamps
pub mod SetUp
pub mod RecentLists
pub mod StampTables
pub mod Table
pub mod Recent
