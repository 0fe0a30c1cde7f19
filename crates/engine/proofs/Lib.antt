pub mod Kept
pub mod Marks
pub mod Start
pub mod Called
pub mod Frees
pub mod Beside
pub mod Turns
pub mod Still
