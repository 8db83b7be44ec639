pub mod Line
pub mod Command
pub mod Fields
pub mod Replies
