pub mod Files
pub mod Sum
pub mod Line
