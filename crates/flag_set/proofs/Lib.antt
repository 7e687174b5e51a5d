pub mod Faults
pub mod Keys
pub mod Members
pub mod Merge
pub mod Order
pub mod Pieces
pub mod Texts
