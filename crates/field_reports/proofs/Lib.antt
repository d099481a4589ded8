pub mod FillLaws
pub mod OutlineLaws
pub mod SomeLaws
