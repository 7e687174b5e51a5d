-- The definitions that this crate's contracts cite.
pub mod Behind
pub mod Fitting
pub mod Fresh
pub mod Hearing
pub mod Laws
pub mod MakerLaws
pub mod Making
pub mod Marking
pub mod ReadRows
pub mod Resync
pub mod SetsTold
pub mod ToldCodes
pub mod ToldGone
