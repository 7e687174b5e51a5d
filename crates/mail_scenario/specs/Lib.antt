pub mod Muted
pub mod Silent
