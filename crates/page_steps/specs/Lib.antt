pub mod Depart
pub mod Lent
pub mod Step
