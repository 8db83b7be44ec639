pub mod Called
pub mod Demand
pub mod Runs
