pub mod Around
pub mod Following
