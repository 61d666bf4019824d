pub mod Operations
pub mod Runs
pub mod Tally
pub mod Seen
pub mod Search
