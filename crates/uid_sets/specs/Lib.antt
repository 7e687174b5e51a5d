-- The definitions that this crate's contracts cite.
pub mod Rising
pub mod SequenceSet
pub mod Spelling
pub mod Uid
pub mod UidSet
