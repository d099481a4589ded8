pub mod FormLaws
pub mod OneAnswer
pub mod ShapeLaws
pub mod UseLaws
pub mod VelocityLaws
