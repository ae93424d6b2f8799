pub mod Steps
pub mod Rows
pub mod Gathering
pub mod Emitting
