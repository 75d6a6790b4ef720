pub mod Views
pub mod Questions
pub mod Plans
pub mod Steps
pub mod Holding
pub mod Standing
pub mod Does
