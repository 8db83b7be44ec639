pub mod Alone
pub mod Bits
pub mod Covered
pub mod Placed
pub mod Seats
