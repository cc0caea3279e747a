pub mod Prelude
mod Balances
mod Joinings
pub mod VerdictTables
mod EachPlace
