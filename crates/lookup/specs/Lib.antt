pub mod Charted
pub mod Covers
pub mod Holders
