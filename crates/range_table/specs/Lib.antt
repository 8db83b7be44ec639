pub mod Rows
pub mod Shift
pub mod Edit
pub mod Made
