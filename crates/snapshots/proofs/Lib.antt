pub mod Prelude
pub mod MarkAddition
pub mod Boards
pub mod Fronts
pub mod Machine
pub mod OneLog
pub mod Rows
pub mod Starts
pub mod BoardSteps
mod Passes
