pub mod GreatestTarget
pub mod Rule
pub mod Target
pub mod Quiet
pub mod Charge
pub mod NodeBound
pub mod Silent
pub mod Laws
