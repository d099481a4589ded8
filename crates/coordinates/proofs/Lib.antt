pub mod LatitudeLaws
pub mod LongitudeLaws
pub mod PartLaws
