-- The lemmas of this crate.
pub mod Closing
pub mod GoneSets
pub mod InOrder
pub mod Joining
pub mod Judging
pub mod LastRows
pub mod Lawful
pub mod LawfulCodes
pub mod Leveling
pub mod LineSets
pub mod MakerStands
pub mod OneDelta
pub mod Replying
pub mod SmallRows
