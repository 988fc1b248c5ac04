pub mod Bounded
pub mod View
pub mod Lists
pub mod Next
pub mod Slots
pub mod Shuffle
