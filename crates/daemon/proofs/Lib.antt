pub mod Prelude
pub mod Climb
pub mod Odd
pub mod RecordedPlay
pub mod Marks
pub mod EmptyDraws
