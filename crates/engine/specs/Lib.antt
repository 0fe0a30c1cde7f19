pub mod Queued
pub mod Returns
pub mod Calls
pub mod Waiting
