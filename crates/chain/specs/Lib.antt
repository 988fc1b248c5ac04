pub mod Faults
pub mod Links
pub mod Store
pub mod ChainStores
pub mod Laws
