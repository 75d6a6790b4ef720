pub mod Faults
pub mod Format
pub mod Rows
pub mod Reading
pub mod Gives
pub mod Exact
pub mod Search
