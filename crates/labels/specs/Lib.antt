-- The definitions that the contracts of `labels` cite.
pub mod Labelled
