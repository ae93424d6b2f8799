pub mod Ranges
pub mod Keys
pub mod Forms
pub mod Values
pub mod JobOf
pub mod Allowed
pub mod Seen
pub mod FaultText
