pub mod Small
pub mod Ladders
pub mod Sets
pub mod Chain
pub mod Samples
