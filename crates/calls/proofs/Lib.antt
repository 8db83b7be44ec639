pub mod Drop
pub mod Used
