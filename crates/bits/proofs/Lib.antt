pub mod Bitwise
pub mod Edits
pub mod Coded
mod Texts
