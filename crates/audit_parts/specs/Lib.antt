pub mod Seams
pub mod FieldRanges
pub mod Continuations
pub mod Laws
