mod Values
mod Growth
pub mod AcceptedLines
pub mod AcceptedLaws
pub mod KeptLogs
pub mod NextTranscripts
pub mod Sessions
