-- The definitions that this crate's contracts cite.
pub mod Candidates
pub mod Laws
pub mod Marked
pub mod Question
pub mod Verdict
