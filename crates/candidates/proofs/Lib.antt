pub mod Ahead
pub mod Kept
pub mod Trying
