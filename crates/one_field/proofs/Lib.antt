pub mod AboveLaws
pub mod OneCode
pub mod OneQuantity
