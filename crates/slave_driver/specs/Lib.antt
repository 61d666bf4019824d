pub mod Validated
pub mod Lent
