-- What the crates above cite: lemmas over the definitions of `specs/`, by what they are of.

-- registers by the words of seven, with 0 in all others
pub use Rattle.headline.proofs.InstanceRun.{regs_with, zero_, zeros}
-- instructions without a line, and runs of them
pub use Rattle.headline.proofs.alike.Calm.{IsQuiet, at_state, id, noted_quiet, quiet_line}
-- runs that ended
pub use Rattle.headline.proofs.alike.Calm.{over, over_line, over_next}
-- what is open after lines is what their brackets leave open
pub use Rattle.headline.proofs.privacy.OpenLemmas.{open_is}
pub use Rattle.headline.proofs.privacy.TouchAt.{first_step, run_none}
