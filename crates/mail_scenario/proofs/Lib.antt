pub mod MutedLinks
pub mod MutedServer
