pub mod Model
pub mod Sound
pub mod Releasing
pub mod Stands
pub mod Zeros
pub mod Make
