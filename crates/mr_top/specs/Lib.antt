pub mod Stages
pub mod RunEnding
pub mod Reports
pub mod Halts
pub mod Means
pub mod Written
