mod Stages
mod InTurn
mod Ends
mod Short
mod Reporting
pub mod Said
