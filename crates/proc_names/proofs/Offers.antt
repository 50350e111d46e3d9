-- What the crates above cite: lemmas over the definitions of `specs/`, by what they are of.

-- the first of faults, part by part
pub use Rattle.proc_names.proofs.FirstLemmas.{earlier_assoc, first_none, firsts, is_first}
pub use Rattle.proc_names.proofs.ItemFaults.{item_found}
