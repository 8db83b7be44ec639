pub mod Table
pub mod Pieces
pub mod Searching
pub mod Holding
