-- The definitions that the contracts cite.
pub mod Table
