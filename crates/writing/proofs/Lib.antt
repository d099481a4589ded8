pub mod ElementLaws
pub mod OneAnswer
