-- The definitions that this crate's contracts cite.
pub mod Bodies
pub mod Fields
pub mod Spelling
pub mod Giving
pub mod Reading
pub mod Refusing
pub mod BothWays
pub mod Restated
