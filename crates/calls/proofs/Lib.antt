pub mod InitLaws
pub mod KeptLaws
pub mod TransferLaws
pub mod ResponseLaws
