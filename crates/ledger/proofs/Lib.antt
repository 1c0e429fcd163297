-- What becomes of the whole ledger.
pub mod Entered
pub mod Settled
