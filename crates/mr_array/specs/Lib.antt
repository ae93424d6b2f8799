pub mod Cells
pub mod Sparing
