-- The lemmas of this crate.
pub mod Effects
pub mod InView
pub mod Keys
pub mod Likeness
pub mod Listed
pub mod Places
pub mod Rows
pub mod Touches
