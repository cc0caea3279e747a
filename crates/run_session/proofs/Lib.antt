pub mod Prelude
pub mod Returned
pub mod TurnProgress
pub mod Silence
