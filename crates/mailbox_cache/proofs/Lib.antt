-- The lemmas of this crate.
pub mod Counting
pub mod Lookups
pub mod Members
pub mod Rising
pub mod Setting
pub mod Splitting
pub mod Vanishing
