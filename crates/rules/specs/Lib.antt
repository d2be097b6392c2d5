pub mod Literal
pub mod Depth
pub mod Taking
