pub mod DriveEnds
pub mod Command
pub mod Script
pub mod Texts
pub mod Readers
