-- The lemmas of this crate.
pub mod Fronts
pub mod Halves
pub mod IdFields
pub mod Lawful
pub mod Leasts
pub mod Marking
pub mod NoIds
pub mod Parting
pub mod Standing
pub mod Telling
