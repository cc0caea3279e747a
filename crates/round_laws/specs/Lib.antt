pub mod Rounds
pub mod LongRuns
pub mod Stamps
pub mod Pieces
pub mod RoundCounts
