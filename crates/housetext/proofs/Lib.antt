-- Laws that belong to no one function.
pub mod Decimal
pub mod Scan
pub mod Starts
pub mod Fields
pub mod Reading
pub mod RoundTrip
pub mod Refusal
pub mod Beginning
pub mod Examples
