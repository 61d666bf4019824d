pub mod Counting
pub mod Order
pub mod Halving
pub mod ClassWords
pub mod Card
pub mod Examples
