-- The demands of the project, proved about the claim of a call.
pub mod Unique
pub mod Places
pub mod Counts
pub mod Reported
pub mod Demand1
pub mod Demand2
pub mod Demand3
pub mod RenumberCounts
pub mod Renumber
pub mod RenumberAnswers
pub mod Through
pub mod Plain
