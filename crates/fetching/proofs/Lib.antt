pub mod Filling
pub mod PolygonRecord
