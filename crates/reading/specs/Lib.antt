pub mod Bindings
pub mod Laid
pub mod Stands
