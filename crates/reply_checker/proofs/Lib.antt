pub mod Prelude
pub mod StepMoves
pub mod ExactAnswers
pub mod AscendingLists
pub mod Table
pub mod NodeCounts
pub mod Pairs
pub mod Rounds
pub mod AskingNeighbours
pub mod StoredContributions
pub mod ContributionSums
pub mod ChargeSums
pub mod BaseStarts
mod Degrees
mod EnabledNodes
mod Witnesses
