pub mod Cut
pub mod Piece
pub mod Over
pub mod Hold
pub mod Parts
