pub mod Bracketed
pub mod LineTexts
pub mod MessageNumbers
pub mod Tellable
pub mod ToldText
pub mod Written
