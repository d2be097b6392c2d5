pub mod Proper
pub mod Shelved
pub mod Space
pub mod Stores
pub mod Words
