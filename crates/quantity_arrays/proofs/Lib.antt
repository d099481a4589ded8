pub mod ArrayLaws
pub mod PointLaws
