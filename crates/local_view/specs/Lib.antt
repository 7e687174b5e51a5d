-- The definitions that this crate's contracts cite.
pub mod Listing
pub mod Messages
pub mod Sights
pub mod Touching
