-- What the crates above cite: lemmas over the definitions of `specs/`, by what they are of.

-- whether two lines tell the same
pub use Rattle.run_audit.proofs.Same.{told_decides, told_same}
-- an audit, line by line
pub use Rattle.run_audit.proofs.Steps.{before_more, followed_append, judged_event}
-- lines that are followed spoil nothing, and lines that spoil nothing are followed
pub use Rattle.run_audit.proofs.Clean.{first_went, wide_true}
-- what an audit answers is right, and what is right is answered
pub use Rattle.run_audit.proofs.Found.{answered_fault, answered_trace}
