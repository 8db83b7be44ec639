pub mod Showing
pub mod View
