pub mod Blocks
pub mod Pairs
pub mod Sums
pub mod Grids
pub mod Couples
pub mod Distances
pub mod Narrow
