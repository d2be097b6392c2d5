pub mod Written
pub mod Pen
pub mod Into
pub mod Back
pub mod Examples
pub mod Short
