pub mod Actions
mod Calls
pub mod Composites
pub mod Inverses
pub mod Marks
pub mod Reading
pub mod Outcomes
