pub mod AffectedNames
pub mod BaseLines
pub mod Changes
pub mod EdgeStances
pub mod StateViews
