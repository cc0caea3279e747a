pub mod Prelude
pub mod ChangedRounds
pub mod Edges
pub mod NodeRecords
pub mod Rounds
pub mod NetworkBuilding
pub mod LineOrders
pub mod EdgeCounts
