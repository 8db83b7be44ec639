pub mod Parse
pub mod Did
pub mod Buffers
pub mod Examples
