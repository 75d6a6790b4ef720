pub mod Factors
pub mod Lists
pub mod Ranks
pub mod Walks
