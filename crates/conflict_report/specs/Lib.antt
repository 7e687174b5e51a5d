-- The definitions that this crate's contracts cite.
pub mod QueueLines
pub mod ReportLines
pub mod StatusLines
