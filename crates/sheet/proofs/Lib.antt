mod Again
mod Answered
pub mod Chunks
mod Copies
pub mod Encoded
mod Entries
mod Laying
mod Limits
mod Putting
mod Unknown
mod Used
mod Places
mod Standing
