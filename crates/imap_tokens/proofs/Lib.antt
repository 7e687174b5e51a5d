pub mod OneToken
pub mod Quoted
pub mod Runs
