pub mod Reaching
pub mod Sweeping
pub mod Marks
pub mod Theorems
pub mod Examples
