pub mod Time
pub mod Divisors
pub mod Law
