pub mod Movie
pub mod Same
pub mod Plain
