pub mod Rows
mod Chains
mod Makings
pub mod Standing
mod Walks
