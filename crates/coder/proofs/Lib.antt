pub mod CodeLaws
pub mod LineLaws
pub mod NameLaws
pub mod OneAnswer
pub mod OneField
pub mod OneText
pub mod ReportLaws
