pub mod Passing
pub mod Answer
