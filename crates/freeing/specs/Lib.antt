pub mod Closed
pub mod Words
