mod Settled
mod Chains
pub mod Worked
