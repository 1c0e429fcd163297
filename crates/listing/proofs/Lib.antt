-- What the proofs of the program's functions cite, and that a text leaves one listing.
pub mod Lines
pub mod Unique
