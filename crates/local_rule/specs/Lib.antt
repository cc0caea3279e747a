pub mod Views
pub mod Faults
pub mod Moves
pub mod Star
pub mod Looks
pub mod Locals
pub mod Steps
