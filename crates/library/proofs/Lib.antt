pub mod AnswerLaws
pub mod CallLaws
pub mod VelocityLaws
