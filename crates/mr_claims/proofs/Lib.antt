pub mod Steps
pub mod Unused
pub mod Passing
pub mod Gathering
