pub mod MessageLaws
pub mod SomeLaws
pub mod StreamLaws
