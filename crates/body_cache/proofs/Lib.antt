pub mod TextTold
pub mod TextHad
mod LastTexts
mod OnlyAsking
mod TextSteps
pub mod Wording
pub mod Looking
pub mod Founds
pub mod Unfound
pub mod Fetches
pub mod Keyed
pub mod ReadRuns
pub mod TextPut
pub mod Carried
mod TextServed
mod ReadServed
pub mod Completeness
pub mod DateLines
mod NoDeeds
