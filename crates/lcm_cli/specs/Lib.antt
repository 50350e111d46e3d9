pub mod Totals
pub mod Bytes
pub mod Answers
pub mod Causes
pub mod SourceRuns
pub mod Pieces
