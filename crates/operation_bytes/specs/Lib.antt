pub mod Encoded
pub mod Filled
