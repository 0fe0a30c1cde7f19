pub mod Rows
pub mod Settling
pub mod Refused
pub mod Named
pub mod Filled
pub mod Written
pub mod Counts
