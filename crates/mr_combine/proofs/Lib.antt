pub mod Runs
pub mod Sorted
pub mod Zipped
