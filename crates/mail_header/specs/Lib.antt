pub mod BareLf
pub mod BodiesLeft
pub mod Field
pub mod Folding
pub mod Header
pub mod Identifier
pub mod Joining
pub mod Parting
