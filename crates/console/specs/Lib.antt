pub mod Scan
pub mod Lines
pub mod Answers
