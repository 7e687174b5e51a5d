-- The lemmas that this crate's proofs share.
pub mod Differences
pub mod Fits
pub mod Items
pub mod Joins
pub mod Numbers
pub mod Orders
pub mod Places
pub mod Queries
pub mod Ranges
pub mod RoundTrip
pub mod Texts
