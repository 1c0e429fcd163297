-- Laws that belong to no one function.
pub mod Words
pub mod Waves
pub mod Queues
pub mod Fronts
pub mod Same
