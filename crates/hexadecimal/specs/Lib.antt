pub mod Hex
pub mod Loops
