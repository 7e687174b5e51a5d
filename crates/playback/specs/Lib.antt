-- The definitions that this crate's contracts cite.
pub mod Course
pub mod Why
pub mod Steps
pub mod Needs
pub mod Replying
pub mod Choosing
pub mod Worlds
pub mod Knows
pub mod Allowed
pub mod Games
pub mod Taken
pub mod PlayerRows
pub mod Left
pub mod PlaysThrough
pub mod PlaysThrice
