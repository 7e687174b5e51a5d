pub mod Cuts
pub mod Ends
pub mod Lines
pub mod Literals
pub mod Parts
pub mod Searches
pub mod Streams
