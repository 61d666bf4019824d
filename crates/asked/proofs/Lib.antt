pub mod EndLaws
pub mod KeptLaws
