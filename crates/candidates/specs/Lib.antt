pub mod Engine
pub mod Nets
pub mod Going
pub mod Cursor
