pub mod SilentMoves
pub mod SmallerBound
pub mod Counting
