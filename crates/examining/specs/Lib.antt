pub mod Entries
pub mod Examined
pub mod Steps
