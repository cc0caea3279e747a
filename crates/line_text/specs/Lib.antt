pub mod Words
pub mod EventText
pub mod ReplyText
pub mod EntryText
pub mod Parsing
pub mod BaseText
pub mod ReadBack
