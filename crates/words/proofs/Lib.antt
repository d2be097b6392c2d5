pub mod Causal
mod Numbers
mod Reading
mod Regions
pub mod Spacing
pub mod Tokens
