pub mod Negation
pub mod Mirrored
