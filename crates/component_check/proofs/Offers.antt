-- What the crates above cite: lemmas over the definitions of `specs/`, by what they are of.

-- the first place at which a test holds, and the first rule that is broken
pub use Rattle.component_check.proofs.First.{IsFirstIn, first_below_is, first_broken, first_by, first_is}
pub use Rattle.component_check.proofs.First.{first_of_is, is_tried, plain_first}
