pub mod Order
pub mod Place
pub mod Left
pub mod Samples
pub mod Law
pub mod Example
