pub mod Gained
pub mod Front
pub mod Entries
