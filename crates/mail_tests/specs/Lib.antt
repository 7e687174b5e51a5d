-- The definitions that the contracts of callers cite.
pub mod InOrder
pub mod SentInOrder
