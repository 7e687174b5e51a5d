pub mod Lines
pub mod Parts
pub mod Stream
pub mod Streams
