pub mod ArrayLaws
pub mod ArrayRecords
pub mod ClearLaws
pub mod CopyLaws
pub mod NumberLaws
pub mod PartLaws
pub mod PointLaws
pub mod PutLaws
