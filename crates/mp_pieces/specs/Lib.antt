pub mod Piece
pub mod Window
pub mod Copied
pub mod Gathered
