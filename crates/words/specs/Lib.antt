pub mod Tokens
pub mod Words
pub mod Regions
pub mod Rest
pub mod Theorems
