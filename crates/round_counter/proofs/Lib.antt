pub mod Prelude
pub mod Bits
pub mod Serving
pub mod Counting
