pub mod Chains
pub mod Entries
pub mod Falling
pub mod Walk
