pub mod Pairs
pub mod Formula
pub mod Claims
pub mod Setting
pub mod Edges
