pub mod Going
pub mod Parts
pub mod Turn
pub mod Written
