pub mod Scanning
pub mod Depth
pub mod Building
pub mod Outcomes
