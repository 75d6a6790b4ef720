pub mod Racks
pub mod Worked
pub mod Added
pub mod Sweeps
pub mod Holds
