pub mod Agrees
pub mod Slots
pub mod Racking
pub mod Makes
pub mod Emptying
pub mod Plays
