pub mod Slots
pub mod Pairs
pub mod Buckets
pub mod Chaining
pub mod Joined
