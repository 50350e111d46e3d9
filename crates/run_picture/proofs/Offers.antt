-- What the crates above cite: lemmas over the definitions of `specs/`, by what they are of.

-- what a line changes is what the audit takes it for
pub use Rattle.run_picture.proofs.Passes.{IsSame, line_is}
