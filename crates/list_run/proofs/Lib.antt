pub mod FineLaws
pub mod PassLaws
pub mod AnswerLaws
