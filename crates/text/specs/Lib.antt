pub mod Cells
pub mod Tables
pub mod Filled
pub mod Going
