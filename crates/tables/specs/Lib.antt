pub mod Hashing
pub mod Rows
pub mod Rules
