pub mod Numbers
pub mod Stretch
pub mod Runs
pub mod Kept
