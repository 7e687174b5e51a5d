pub mod BareLfs
pub mod Colons
pub mod Form
pub mod Joined
pub mod Lines
pub mod Verdicts
pub mod Whole
