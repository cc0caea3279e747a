pub mod PriorIndexes
pub mod Tallies
pub mod TallyChanges
pub mod TurnedGuards
