pub mod Prelude
pub mod ArgumentAddition
pub mod FoundMatches
pub mod WordReadings
pub mod GoodWords
pub mod GoodStorms
pub mod StormReadings
