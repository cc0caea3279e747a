pub mod Mistake
pub mod TaskWords
pub mod StormLoads
