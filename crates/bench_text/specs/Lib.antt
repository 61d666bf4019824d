pub mod Digits
pub mod Lines
pub mod Forms
pub mod Input
pub mod Taken
pub mod Puts
pub mod Shown
