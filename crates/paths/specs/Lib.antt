-- The definitions that the contracts of `paths` cite.
pub mod Nets
