pub mod Arcs
pub mod Family
pub mod WipedOut
pub mod Around
pub mod Theorems
pub mod Standing
pub mod Changes
pub mod Justifying
