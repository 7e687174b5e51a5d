-- The definitions that this crate's contracts cite.
pub mod Makers
pub mod Places
