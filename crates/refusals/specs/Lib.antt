pub mod Enter
pub mod Needs
pub mod Number
pub mod Refuse
pub mod Spans
