pub mod Enters
pub mod Equal
pub mod Lent
pub mod Parts
pub mod Room
pub mod Spans
pub mod Zero
