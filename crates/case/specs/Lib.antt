pub mod Seen
pub mod Standing
pub mod Refusals
pub mod Printed
pub mod Answers
pub mod Claimed
pub mod Steps
pub mod Promise
