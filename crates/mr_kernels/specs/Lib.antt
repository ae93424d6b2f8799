pub mod Scan
pub mod Edges
pub mod Product
