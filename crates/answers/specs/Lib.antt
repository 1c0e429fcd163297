pub mod Answered
pub mod Cases
pub mod Bytes
pub mod Classes
pub mod Through
