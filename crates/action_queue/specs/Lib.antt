-- The definitions that this crate's contracts cite.
pub mod Book
pub mod Events
pub mod Queues
pub mod Readiness
pub mod Restating
pub mod Rules
pub mod Targets
pub mod Telling
pub mod Writable
