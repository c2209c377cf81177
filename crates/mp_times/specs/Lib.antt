pub mod Times
pub mod Sync
pub mod Written
pub mod Law
