pub mod Clipped
pub mod Shape
pub mod Law
pub mod Cut
pub mod Counted
pub mod Touched
