pub mod PartialOutput
pub mod StreamEnds
pub mod Lines
