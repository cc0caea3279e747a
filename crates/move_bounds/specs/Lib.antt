pub mod MovesLeft
pub mod RoundsLeft
pub mod FromSilence
pub mod Present
pub mod Unmarried
