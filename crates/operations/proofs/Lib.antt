pub mod ListLaws
pub mod ChunkLaws
pub mod RunLaws
pub mod TallyLaws
pub mod SearchLaws
pub mod SumLaws
pub mod FoundLaws
pub mod AnswerLaws
