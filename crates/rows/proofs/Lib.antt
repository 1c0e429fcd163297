-- Lemmas on rows and on numbering, which belong to no one function.
pub mod Bytes
pub mod Numbering
