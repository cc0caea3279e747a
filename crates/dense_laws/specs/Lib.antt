pub mod Potential
pub mod Bound
