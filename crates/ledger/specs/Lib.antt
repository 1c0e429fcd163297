-- The definitions that the contracts of `ledger` cite.
pub mod Ledger
pub mod Held
