-- Laws that belong to no one function.
pub mod Words
pub mod Loops
pub mod Same
