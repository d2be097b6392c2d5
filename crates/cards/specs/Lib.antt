pub mod Images
pub mod Meant
pub mod Maps
pub mod Pairs
pub mod Judged
pub mod Outcomes
pub mod Printed
