pub mod FoundLaws
pub mod LookLaws
