pub mod Segments
pub mod Entry
pub mod Table
pub mod Written
pub mod EditBox
