-- The definitions that the contracts of `atoms` cite.
pub mod Nets
