-- The definitions that the contracts cite.
pub mod Decimal
pub mod Text
pub mod Scan
