pub mod MasterStage
pub mod SlaveStage
pub mod MasterGroup
