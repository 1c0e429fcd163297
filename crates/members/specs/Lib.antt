-- The definitions that the contracts of members cite.
pub mod Listed
pub mod Ordered
