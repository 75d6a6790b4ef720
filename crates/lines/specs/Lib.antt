pub mod Format
pub mod Held
pub mod Pages
pub mod Reading
