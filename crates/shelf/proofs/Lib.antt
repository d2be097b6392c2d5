pub mod Climbing
pub mod Fronts
pub mod Keeping
pub mod Quotients
pub mod Rooms
pub mod Spacing
