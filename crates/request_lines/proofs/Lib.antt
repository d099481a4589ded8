pub mod AmountLaws
pub mod AskingLaws
pub mod EntryLaws
pub mod PartedLaws
