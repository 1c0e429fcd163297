-- The definitions that the contracts cite.
pub mod Listing
pub mod Page
