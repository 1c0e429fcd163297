pub mod Grounding
pub mod Answering
pub mod Refusals
pub mod Unique
