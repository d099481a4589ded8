pub mod AnswerLaws
pub mod ListLaws
pub mod MatchLaws
pub mod SetLaws
pub mod SignLaws
