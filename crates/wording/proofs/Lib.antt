pub mod MessageLaws
pub mod NumberLaws
pub mod ShapeTextLaws
pub mod VelocityTextLaws
