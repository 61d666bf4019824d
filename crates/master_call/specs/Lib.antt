pub mod CallBegin
pub mod CallStep
