mod Gaps
mod Counts
mod Stages
mod Letters
mod Bindings
mod Numbers
pub mod Laying
mod Clauses
pub mod Starting
