mod Digits
pub mod Spaced
pub mod Starts
pub mod Times
pub mod Totals
pub mod Bridge
pub mod Passes
mod Kept
mod Vectors
mod Words
pub mod Read
