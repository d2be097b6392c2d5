pub mod Readings
pub mod Going
pub mod Deciding
pub mod Once
