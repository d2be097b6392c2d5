pub mod Draft
pub mod Lawful
pub mod Next
pub mod Fault
pub mod Outcome
pub mod Printed
pub mod Theorems
