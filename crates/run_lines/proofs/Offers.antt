-- What the crates above cite: lemmas over the definitions of `specs/`, by what they are of.

-- where steps stop at a limit, there is the cut point
pub use Rattle.run_lines.proofs.CutPoints.{of_cut, stops_are_cuts}
-- a run of some instructions with the lines that it wrote so far, one more instruction, and its end
pub use Rattle.run_lines.proofs.Going.{Going, Gone, HasEnded, ends, ends_early, ends_running, event_lines}
pub use Rattle.run_lines.proofs.Going.{going_more, gone_line, gone_more, gone_same, line_fails, next_same}
pub use Rattle.run_lines.proofs.Going.{no_line, no_more_lines, stays_ended, watched_run}
-- the lines of a run in two parts
pub use Rattle.run_lines.proofs.Split.{lines_split}
-- the pieces of a line, one after the other
pub use Rattle.run_lines.proofs.LineLemmas.{cell_fails, cell_more, cells_pieces, head_fails, joined_with}
pub use Rattle.run_lines.proofs.LineLemmas.{line_written, lines_pieces-append, word_fails, word_written}
-- the lines of one step, by its event
pub use Rattle.run_lines.proofs.StepTold.{reached_by, steps_tell_so}
-- the lines of a trace are those of its steps
pub use Rattle.run_lines.proofs.TraceTold.{trace_stands, traced_told}
