pub mod Numbers
pub mod ShapeTexts
pub mod VelocityTexts
pub mod Wording
