pub mod Levels
pub mod Formedness
pub mod Sorts
pub mod Steps
mod Lasts
pub mod Walks
pub mod Outcomes
mod Behind
