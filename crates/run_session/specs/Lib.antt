pub mod RunStart
pub mod Line
