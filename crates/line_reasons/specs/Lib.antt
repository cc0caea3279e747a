pub mod ReasonLine
