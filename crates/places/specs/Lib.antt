pub mod Places
pub mod Loops
pub mod Map
pub mod Found
