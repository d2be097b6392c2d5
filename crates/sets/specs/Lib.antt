pub mod Members
pub mod Laid
pub mod Steps
