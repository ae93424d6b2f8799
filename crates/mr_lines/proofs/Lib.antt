mod Emitted
mod NextLine
mod Driven
mod Fields
mod Searching
mod Whole
