pub mod ChosenLaws
pub mod OneText
