pub mod Reading
pub mod Shifting
pub mod Entries
pub mod EditsAreReadBack
pub mod EditsAreAnywhere
