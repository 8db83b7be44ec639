pub mod Added
pub mod Enters
pub mod Finish
