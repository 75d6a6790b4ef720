pub mod Rooms
pub mod Triples
pub mod Plans
pub mod Kept
pub mod Answers
