pub mod Members
pub mod Counts
pub mod MarkedNames
pub mod TrimmedWords
pub mod RemovedNames
