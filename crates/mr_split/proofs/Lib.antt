mod Forward
mod Between
pub mod Whole
pub mod Strides
pub mod Numbered
