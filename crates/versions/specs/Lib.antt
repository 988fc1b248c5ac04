pub mod Faults
pub mod Stores
pub mod Log
pub mod LogStores
