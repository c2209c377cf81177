pub mod Places
pub mod SameTimes
pub mod FinerTimes
pub mod PiecesShow
pub mod ByFractions
