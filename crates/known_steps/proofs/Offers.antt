-- What the crates above cite: lemmas over the definitions of `specs/`, by what they are of.

-- the state in which so much is known; a step, a call and a return from it; stretches of a run; events
pub use Rattle.known_steps.proofs.Known.{with_cells, whole, StepsTo, case_known, step_known}
pub use Rattle.known_steps.proofs.Calls.{CrossesTo, made_frame, call_known, return_known}
pub use Rattle.known_steps.proofs.Runs.{RunsTo, runs_known, halts_known, event_by, jump_note, jump_event}
-- what is known at a start
pub use Rattle.known_steps.proofs.Begins.{known_from, known_at_start}
