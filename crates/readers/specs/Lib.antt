pub mod Readers
pub mod Answers
pub mod Places
pub mod Results
