pub mod Before
pub mod Numbered
pub mod Splitting
pub mod Theorems
pub mod Examples
