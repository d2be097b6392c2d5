pub mod Imaged
pub mod Admitted
pub mod Within
pub mod Refusals
