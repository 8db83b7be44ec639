pub mod Agree
pub mod Chaining
pub mod Fit
pub mod Shape
pub mod Slots
