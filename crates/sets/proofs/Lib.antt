mod Bits
pub mod Elements
pub mod Laying
mod Comparing
mod Pairs
pub mod Sorted
pub mod Sizes
