mod AnswerKinds
pub mod ReadLaws
