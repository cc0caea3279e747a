pub mod Prelude
pub mod UnreachedNodes
pub mod PairCounts
pub mod OpenedEdges
pub mod CostComparison
pub mod TurnedPointers
pub mod Pays
pub mod MannePays
