mod Observed
mod Equivalence
mod TwoParts
mod TwoStarts
mod TwoRuns
mod Apart
