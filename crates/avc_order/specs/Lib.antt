pub mod Picture
pub mod Access
pub mod Count
pub mod Sequence
pub mod Ranks
pub mod Rising
pub mod Delay
