pub mod Rule
pub mod Quiet
pub mod Charge
pub mod NodeBound
pub mod Silent
pub mod Laws
