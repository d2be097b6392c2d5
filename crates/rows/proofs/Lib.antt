pub mod Lines
pub mod Copies
pub mod Clauses
