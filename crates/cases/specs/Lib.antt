pub mod Answers
pub mod Comparing
pub mod Reading
pub mod Taking
pub mod Written
