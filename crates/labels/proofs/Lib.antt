-- Lemmas on labels and on loops, which belong to no one function.
pub mod Turns
pub mod Below
