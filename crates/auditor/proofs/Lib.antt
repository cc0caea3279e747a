pub mod Prelude
pub mod Steps
pub mod Feedless
pub mod Chains
pub mod Openings
pub mod TextEnds
pub mod VerdictUniqueness
pub mod EqualPrefixes
pub mod SingleVerdicts
pub mod Bases
pub mod DamageAbsence
pub mod LineCounts
pub mod Windows
pub mod AuditPositions
pub mod ReadOpenings
pub mod Spent
pub mod WholeTranscripts
pub mod NextParts
pub mod LongLines
pub mod PieceReading
pub mod CursorPositions
pub mod EpochSteps
mod NextCosts
pub mod EpochRounds
mod EpochBounds
pub mod TranscriptEnds
pub mod IncrementalAudits
