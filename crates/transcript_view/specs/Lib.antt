pub mod Picture
pub mod Table
pub mod Views
