pub mod FirstOctets
pub mod SizeLaws
pub mod StoreLaws
