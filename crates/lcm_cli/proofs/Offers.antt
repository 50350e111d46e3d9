-- What the crates above cite.

-- a status of a run is of no refusal
pub use Rattle.lcm_cli.proofs.RunsMade.{refused_none}
-- what was due to a run of which a write failed
pub use Rattle.lcm_cli.proofs.CutRuns.{cut_run}
