pub mod Subjects
pub mod Erased
