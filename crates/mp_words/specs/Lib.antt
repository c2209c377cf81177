pub mod Jobs
pub mod Options
pub mod Names
pub mod Numbers
pub mod Marks
pub mod Arguments
pub mod Line
pub mod Answers
