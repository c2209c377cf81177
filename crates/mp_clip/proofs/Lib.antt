pub mod Pieces
pub mod Counting
pub mod Measures
pub mod LeastScales
pub mod Shapes
pub mod Telling
pub mod Multiples
pub mod Touches
