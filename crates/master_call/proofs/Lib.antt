pub mod BeginLaws
pub mod HeldLaws
pub mod CallLaws
pub mod RunLaws
pub mod StandLaws
pub mod ListLaws
pub mod KeptLaws
