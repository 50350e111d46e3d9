-- What the crates above cite: lemmas over the definitions of `specs/`, by what they are of.

-- two domains that are related, in what they tell and in what they carry
pub use Rattle.proc_semantics.proofs.Kin.{Kin, RLevel, RWait, item_kept, levels_kept, next_less, proc_kept}
pub use Rattle.proc_semantics.proofs.Kin.{then_less, turn_kept, wait_less}
-- what is forgotten of the refined meaning leaves the meaning
pub use Rattle.proc_semantics.proofs.Marked.{mark_laws, marked_forgets, marked_renames}
-- the meaning without levels obeys the recursion, and any level that is enough gives the meaning
pub use Rattle.proc_semantics.proofs.Recursive.{recursive, starts}
