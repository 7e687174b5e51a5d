pub mod FirstWords
pub mod Notices
