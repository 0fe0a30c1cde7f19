pub mod Causes
pub mod State
