pub mod Lookups
pub mod Gaps
pub mod Packing
pub mod Sizes
