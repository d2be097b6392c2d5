pub mod Halves
pub mod Faults
pub mod Printed
