pub mod PointLaws
pub mod ReportLaws
