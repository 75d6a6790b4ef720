pub mod Rows
pub mod Lines
pub mod Places
pub mod Tops
pub mod Steps
pub mod Books
