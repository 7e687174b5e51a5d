pub mod Numbers
pub mod Letters
pub mod Endings
pub mod LookRuns
