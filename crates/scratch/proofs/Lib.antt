pub mod Accepting
pub mod Keeping
pub mod Sweeping
pub mod Translating
mod Counted
