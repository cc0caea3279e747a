pub mod Outcome
pub mod Line
pub mod RunEnds
pub mod LineFaults
pub mod RunOptions
pub mod Restarts
pub mod ReadProgress
pub mod WholeLines
