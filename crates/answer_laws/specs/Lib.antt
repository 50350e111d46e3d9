pub mod Roads
pub mod SafeRuns
pub mod MeanOfRuns
