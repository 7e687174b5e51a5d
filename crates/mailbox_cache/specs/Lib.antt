-- The definitions that this crate's contracts cite.
pub mod Cache
pub mod Rows
