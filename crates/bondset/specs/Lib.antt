-- The definitions that bondset's contracts cite.
pub mod Sets
pub mod Bytes
pub mod Rows
pub mod Reduction
pub mod Index
pub mod Found
