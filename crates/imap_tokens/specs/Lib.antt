pub mod Quoted
pub mod Reading
pub mod Tokens
pub mod Scan
