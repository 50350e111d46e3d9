-- What the crates above cite: lemmas over the definitions of `specs/`, by what they are of.

-- what code outside holds, and the owner of a seal
pub use Rattle.lockstep.proofs.Step.{face_is, own_of}
-- the numbers of calls rise
pub use Rattle.lockstep.proofs.Counts.{call_new, step_rises, until_reached}
-- where trusted code lets go with the same shown, code outside arrives in alike states
pub use Rattle.lockstep.proofs.Arrive.{arrive_alike, in_region_of, more, opened_open}
-- steps and rounds from alike states
pub use Rattle.lockstep.proofs.Whole.{first_inside, runs_outside, alike_step, below_later, below_new}
pub use Rattle.lockstep.proofs.Whole.{newest_below, after_a, after_b, below_after, run_in_step}
-- the law on contexts
pub use Rattle.lockstep.proofs.Contexts.{no_context_tells}
-- the exports of trusted parts, in one list
pub use Rattle.lockstep.proofs.Itself.{all_of, in_all, of_all}
