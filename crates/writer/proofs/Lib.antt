pub mod Pens
mod Ranges
pub mod Buffers
mod Descents
mod Prefixes
mod Matrices
mod Wording
mod Roundtrip
pub mod Lengths
