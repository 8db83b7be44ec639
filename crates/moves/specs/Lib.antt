pub mod Copying
pub mod Made
pub mod Moving
pub mod Source
