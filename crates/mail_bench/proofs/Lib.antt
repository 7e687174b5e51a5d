mod Asking
mod Breaking
mod Standing
mod Stretching
