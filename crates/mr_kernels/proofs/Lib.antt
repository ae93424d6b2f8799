pub mod Blocks
pub mod Bits
pub mod Runs
pub mod Scans
pub mod Products
