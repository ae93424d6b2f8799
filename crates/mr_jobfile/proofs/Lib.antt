mod Files
mod Meant
pub mod Allowed
pub mod Found
pub mod JobOf
pub mod Lookups
pub mod Texts
pub mod Unknown
