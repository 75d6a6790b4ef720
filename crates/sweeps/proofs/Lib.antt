pub mod Leads
pub mod Keeps
pub mod Laws
pub mod Spreads
pub mod Rebuilds
