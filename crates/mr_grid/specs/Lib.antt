pub mod Dense
pub mod Fields
pub mod Pixels
pub mod Reading
