pub mod Keyed
pub mod Sent
