pub mod Callers
pub mod Choices
pub mod Contributions
pub mod ReplyVerdicts
pub mod AscendingLists
pub mod Bases
pub mod Witnesses
