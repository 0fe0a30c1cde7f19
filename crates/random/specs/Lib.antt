pub mod Constraints
pub mod Density
pub mod Sums
pub mod Xorshift
