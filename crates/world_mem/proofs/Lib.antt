mod Drawing
mod Tearing
pub mod Answering
pub mod Doing
pub mod Changing
pub mod Faults
pub mod Hearing
pub mod Lines
pub mod Numbering
pub mod OnePart
pub mod Parts
pub mod Restarting
pub mod Settling
pub mod Sending
pub mod Stepping
