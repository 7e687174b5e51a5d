pub mod Flag
pub mod FlagKey
pub mod FlagList
pub mod FlagSet
pub mod FlagText
pub mod KeyRuns
