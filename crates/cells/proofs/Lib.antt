pub mod Lines
pub mod Standing
pub mod Writing
pub mod Places
pub mod Rooms
