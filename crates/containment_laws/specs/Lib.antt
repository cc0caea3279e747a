pub mod Rest
pub mod Reach
pub mod Movers
pub mod Laws
