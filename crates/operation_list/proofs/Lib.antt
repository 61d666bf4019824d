pub mod ManyLaws
pub mod SliceLaws
pub mod Examples
