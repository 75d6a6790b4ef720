pub mod Outcomes
pub mod Keeping
mod Tests
mod Readings
mod Along
mod Solving
