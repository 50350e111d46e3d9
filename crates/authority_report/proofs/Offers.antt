-- What the crates above cite: lemmas over the definitions of `specs/`, by what they are of.

-- spans, and stretches, are known by what they allow
pub use Rattle.authority_report.proofs.OneSet.{one_spans, one_stretches}
-- one stretch more is taken
pub use Rattle.authority_report.proofs.TakesLemmas.{fresh, kept, only}
