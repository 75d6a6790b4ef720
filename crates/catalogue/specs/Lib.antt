pub mod Calls
pub mod Runs
pub mod Agreement
pub mod Requests
pub mod Racks
pub mod Serves
pub mod Replays
