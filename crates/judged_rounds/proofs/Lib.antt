pub mod Prelude
pub mod Apart
pub mod Unhit
pub mod Sets
