pub mod Header
pub mod Frame
pub mod Entry
pub mod Sound
pub mod Places
pub mod Stream
pub mod Window
