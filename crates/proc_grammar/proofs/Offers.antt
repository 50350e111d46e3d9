-- What the crates above cite: lemmas over the definitions of `specs/`, by what they are of.

-- whole texts
pub use Rattle.proc_grammar.proofs.Whole.{expected_is, found, one_module, only}
-- a text that stops to be the beginning of a module is told so, unless it passes a limit before
pub use Rattle.proc_grammar.proofs.Stops.{fault_is, told}
-- limits of trees
pub use Rattle.proc_grammar.proofs.Limits.{Keeps, KeepsTokens, Limits}
-- what tokens spell keeps the limits, whatever trees are made of it
pub use Rattle.proc_grammar.proofs.Within.{spelled_within}
