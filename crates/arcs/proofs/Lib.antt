pub mod Shrink
pub mod Exists
pub mod Unique
pub mod Covering
pub mod Reach
pub mod Keeps
