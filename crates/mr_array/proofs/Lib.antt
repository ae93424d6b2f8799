pub mod Places
pub mod Strides
