pub mod CommonDivisors
pub mod WholeTimes
pub mod Products
