pub mod HeldLaws
pub mod TestLaws
pub mod UnusedLaws
pub mod ZeroLaws
