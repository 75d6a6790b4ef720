pub mod Fronts
pub mod Places
pub mod Follows
pub mod Pages
pub mod Readings
