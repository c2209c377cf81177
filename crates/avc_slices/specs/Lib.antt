pub mod Unit
pub mod References
pub mod Weights
pub mod Marking
pub mod Header
