pub mod ListedLaws
pub mod StoredLaws
pub mod WritingLaws
