-- What the proofs of several functions use.
pub mod Tabled
pub mod Places
pub mod Listing
pub mod Writing
pub mod Answering
pub mod Routes
pub mod Ordered
