-- The definitions that the contracts of `counting` cite.
pub mod Counts
