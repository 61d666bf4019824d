pub mod CallLaws
pub mod EdgeLaws
pub mod Standing
