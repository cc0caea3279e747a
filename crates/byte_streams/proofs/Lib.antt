pub mod FirstLines
pub mod WriterOutput
pub mod SplitWrites
