-- What the crates above cite: lemmas over the definitions of `specs/`, by what they are of.

-- what is left of a list that is gone through, and what holds of each item
pub use Rattle.proc_language.proofs.ListLemmas.{drop_item, each_at}
