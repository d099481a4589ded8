pub mod OnePoints
pub mod PointLaws
