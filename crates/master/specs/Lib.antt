pub mod Rust
pub mod Ours
pub mod Joined
pub mod Machine
pub mod Fits
pub mod Calls
pub mod Steps
pub mod Claims
