mod Finding
mod Indexing
mod Chaining
mod Whole
mod Joining
