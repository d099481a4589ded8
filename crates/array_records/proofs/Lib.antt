mod IntoLaws
mod OutlineLaws
mod PointLaws
