-- Laws that belong to no one function.
pub mod WaysNet
pub mod Added
pub mod Bound
pub mod Layered
pub mod Tables
