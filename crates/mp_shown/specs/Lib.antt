pub mod Segments
pub mod Shown
pub mod Fractions
pub mod Law
pub mod Place
