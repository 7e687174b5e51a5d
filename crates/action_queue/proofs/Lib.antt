-- The lemmas of this crate.
pub mod Anew
pub mod AnewBooks
pub mod AnewCaches
pub mod AnewStays
pub mod Placing
pub mod Queueing
pub mod Told
