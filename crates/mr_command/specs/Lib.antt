pub mod Simple
pub mod Form
pub mod Asked
