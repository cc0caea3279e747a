pub mod Fault
pub mod Rows
pub mod Graph
pub mod RowPools
