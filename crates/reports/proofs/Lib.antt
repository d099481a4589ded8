pub mod MotionLaws
