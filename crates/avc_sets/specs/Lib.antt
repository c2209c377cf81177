pub mod Set
pub mod Fields
pub mod Format
pub mod Size
pub mod Usability
pub mod Sequence
pub mod Picture
pub mod Configuration
