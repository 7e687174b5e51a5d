-- The definitions that this crate's contracts cite.
pub mod Ending
pub mod HistoryText
pub mod LetterText
pub mod Telling
pub mod Words
