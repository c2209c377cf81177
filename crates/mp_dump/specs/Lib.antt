pub mod Words
pub mod Row
pub mod Info
pub mod Timeline
pub mod Json
pub mod Track
