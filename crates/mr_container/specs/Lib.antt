pub mod Partition
pub mod Laws
pub mod Block
pub mod Entries
