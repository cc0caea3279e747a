pub mod Prelude
pub mod Partners
pub mod NodeScans
pub mod Rounds
pub mod StoredContributions
pub mod ContributionSums
