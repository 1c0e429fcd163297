-- Laws that belong to no one function.
pub mod Examples
pub mod Writing
pub mod Turns
