pub mod Faults
pub mod Lines
pub mod Listing
pub mod Runs
pub mod Led
pub mod Ran
