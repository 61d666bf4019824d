pub mod EncodedLaws
pub mod FilledLaws
