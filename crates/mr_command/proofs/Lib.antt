mod Getters
mod Digits
mod Examples
