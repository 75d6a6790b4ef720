pub mod Writings
pub mod Enters
pub mod Sets
pub mod Agrees
