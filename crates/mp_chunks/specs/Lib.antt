pub mod Table
pub mod Sizes
pub mod Chunks
pub mod Places
pub mod Samples
pub mod Walk
pub mod Written
