pub mod Runs
pub mod Chunks
pub mod Turns
pub mod SampleKeys
pub mod SamplesInChunks
pub mod DecodeTimes
pub mod Places
