pub mod Rows
pub mod Bearing
pub mod Held
