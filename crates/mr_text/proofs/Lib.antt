pub mod Scans
pub mod Numbered
pub mod Pairs
mod Pushed
pub mod Stretches
pub mod Sending
mod Whole
