pub mod DemandLaws
pub mod FirstOctet
pub mod OneAnswer
pub mod ReadLaws
pub mod UnusedLaws
