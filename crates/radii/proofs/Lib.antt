pub mod CoverLaws
pub mod RowLaws
pub mod TableLaws
