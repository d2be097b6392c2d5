pub mod Sets
pub mod Literals
pub mod Meaning
pub mod Truth
pub mod Examples
