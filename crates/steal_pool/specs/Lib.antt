pub mod Ledgers
pub mod Ends
pub mod Faults
pub mod Once
pub mod Hands
pub mod VerdictTables
