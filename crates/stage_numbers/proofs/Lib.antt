pub mod MasterStageLaws
pub mod MasterStageRanges
pub mod SlaveStageLaws
pub mod SlaveStageRanges
pub mod NumberedLaws
