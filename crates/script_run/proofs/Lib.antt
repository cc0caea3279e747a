pub mod Prelude
pub mod RestOfLine
pub mod TextShift
pub mod RunEnds
pub mod LongLines
pub mod CarriedLines
pub mod RunProgress
pub mod RefusedLines
