pub mod Alone
pub mod Copied
