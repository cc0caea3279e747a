pub mod Prelude
pub mod DrawnTurns
pub mod Once
pub mod Lengths
pub mod LineEnds
pub mod LongLines
pub mod TextLines
pub mod Silence
