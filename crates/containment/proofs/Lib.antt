pub mod Prelude
pub mod AbsentNames
pub mod CoveredReach
pub mod MergedLists
