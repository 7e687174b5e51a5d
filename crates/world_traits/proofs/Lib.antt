pub mod Images
pub mod Passing
pub mod Sides
pub mod Calls
pub mod Keeping
pub mod Resting
pub mod Narrowing
pub mod Choosing
pub mod OneSide
pub mod Greeting
pub mod Due
mod OneLine
mod PuttingIn
mod Remembered
pub mod Traces
