pub mod Names
pub mod Same
pub mod Rows
pub mod Jobs
pub mod Tables
pub mod Folds
