pub mod AsciiWords
pub mod Counting
pub mod NumberReading
pub mod QuotedReading
pub mod ReadAgain
pub mod Sameness
pub mod Taken
pub mod Unquoting
