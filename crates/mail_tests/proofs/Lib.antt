-- What the calls of a caller say together.
pub mod InOrder
pub mod OneSession
