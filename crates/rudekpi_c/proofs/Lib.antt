mod AsBox
mod OwnershipMoves
mod NullHandles
mod Walks
pub mod AuditCalls
pub mod CommandCalls
pub mod StatusNumbers
pub mod LineCalls
pub mod LocalCalls
pub mod TextTransfer
pub mod JoinedVerdicts
pub mod AuditVerdicts
pub mod Moments
pub mod NodeLists
pub mod Partners
pub mod Renumbering
pub mod Resumption
pub mod RowOutput
pub mod RoundCalls
pub mod SessionTexts
pub mod RunningSessions
