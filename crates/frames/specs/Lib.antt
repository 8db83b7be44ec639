pub mod Free
pub mod Bits
pub mod Spare
pub mod Count
