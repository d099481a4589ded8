mod EndLaws
mod IntoLaws
