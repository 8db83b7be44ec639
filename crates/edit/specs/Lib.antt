pub mod Edit
pub mod Edits
pub mod Keeps
