-- What the crates above cite: lemmas over the definitions of `specs/`, by what they are of.

-- two registers are equal or not; registers after one was set; registers that are alike are the same
pub use Rattle.lcm_machine.proofs.RegLemmas.{cases_reg, reg-set_other, reg-set_same, same_regs}
-- cells after one was set or dropped; memories with the same cells are one; where a list of slots is searched
pub use Rattle.lcm_machine.proofs.CellLemmas.{cell-drop_other, cell-set_other, cell-set_same, cell_dropped}
pub use Rattle.lcm_machine.proofs.CellLemmas.{find_below, find_slot, held_in, same_cells, slot_other}
pub use Rattle.lcm_machine.proofs.CellLemmas.{slot_same}
-- stretches of cells that are there, are read, and are taken out of memory
pub use Rattle.lcm_machine.proofs.Stretches.{all_there-drop, cell-without_in, cell-without_out, there-first}
pub use Rattle.lcm_machine.proofs.Stretches.{there-none, there-step, tied_same, without-empty, without-step}
pub use Rattle.lcm_machine.proofs.Stretches.{words-first, words-none, words_from-drop}
-- addresses in spans, and that their bases rise
pub use Rattle.lcm_machine.proofs.SpanLemmas.{bases_rise, in_span_is, none_after}
-- a property of the effect of a plan, by the shape of the plan
pub use Rattle.lcm_machine.proofs.Plans.{Gives, Gives-ask, Gives-by_cap, Gives-effect, Gives-if, Gives-need}
pub use Rattle.lcm_machine.proofs.Plans.{Shape, ShapeMoved, ShapePlace, gives_fails, gives_goes, gives_halts}
pub use Rattle.lcm_machine.proofs.Plans.{memory_is, plan-Shape}
-- what a fetch says of pc's word, and the step at an instruction
pub use Rattle.lcm_machine.proofs.RowLemmas.{fetch_normal, fetch_some, look_memory, look_seals, step_at}
-- what a step leaves of memory, and the address that its instruction uses
pub use Rattle.lcm_machine.proofs.TouchLemmas.{after_each, after_went, fetched_row, plain_same, row_cells}
pub use Rattle.lcm_machine.proofs.TouchLemmas.{row_others, there_same, touched_by, used_target}
-- the effect of an `xjmp` that goes
pub use Rattle.lcm_machine.proofs.JumpLemmas.{jump-can, jump-cells, plan-jump}
-- a closed property of words is kept by every row
pub use Rattle.lcm_machine.proofs.WordsKept.{row_keeps, step_keeps}
-- words that have a spelling, along steps and runs
pub use Rattle.lcm_machine.proofs.WordsFit.{OpenedFits, next_state_fits, opened_fits, plain_fits, small_fits}
pub use Rattle.lcm_machine.proofs.WordsFit.{tested_fits, zero_fits}
-- a run that goes without a cell doesn't touch it where it is there
pub use Rattle.lcm_machine.proofs.Quiet.{lacking, lacks, quiet, untouched_then}
-- a step that touches none of some cells goes the same way whatever is in them
pub use Rattle.lcm_machine.proofs.Blind.{fetch_blind, step_blind}
-- what a capability that allows an access covers, and that a lower permission lets no more run
pub use Rattle.lcm_machine.proofs.StepActs.{below_runs, covered, does_as_it_may, in_seals}
pub use Rattle.lcm_machine.proofs.StepActs.{writes_where_it_may}
-- regions that lie apart, and what of them a capability has
pub use Rattle.lcm_machine.proofs.RegionLemmas.{bounds_over, contains_cases, contains_none, normal_apart}
pub use Rattle.lcm_machine.proofs.RegionLemmas.{over_bounds}
-- no linear memory comes to be held twice, along runs; the bounds of a split
pub use Rattle.lcm_machine.proofs.HeldOnce.{run_stays, split_bounds}
-- 'covered at most once', told by a count of places
pub use Rattle.lcm_machine.proofs.CountLemmas.{count_some, counted, counts_once, covered_counts, has_place}
pub use Rattle.lcm_machine.proofs.CountLemmas.{once_counts}
-- a step counts at most one, and an ended machine stays as it is
pub use Rattle.lcm_machine.proofs.RunLemmas.{count_next, is_none, plain_count, plain_ended, plain_ends}
pub use Rattle.lcm_machine.proofs.RunLemmas.{plain_more, within_parts}
-- what holds before a step that a run in a stretch makes
-- what an instruction does where its conditions hold, for words of any kind; runs one after the other
pub use Rattle.lcm_machine.proofs.Goes.{Stands-set, Stands-set_below, cca_goes, cca_seal_goes, cseal_goes}
pub use Rattle.lcm_machine.proofs.Goes.{fail_fails, fetch_at, geta_goes, getb_goes, gete_goes, getlin_goes}
pub use Rattle.lcm_machine.proofs.Goes.{getp_goes, gettype_goes, go, halt_halts, jmp_goes, jnz_goes}
pub use Rattle.lcm_machine.proofs.Goes.{jnz_jumps, leaves, left, load_goes, load_linear_goes, lt_goes}
pub use Rattle.lcm_machine.proofs.Goes.{minus_goes, move_goes, number_in, plus_goes, ran, run_of-add}
pub use Rattle.lcm_machine.proofs.Goes.{run_then, set_goes, seta2b_goes, shows, splice_goes, split_goes}
pub use Rattle.lcm_machine.proofs.Goes.{stays, stop, store_goes, xjmp_goes}
-- one step of code that stands in memory is its row, and one step of a run is a step
pub use Rattle.lcm_machine.proofs.StepRows.{run_one, step_row}
-- where `store`, `split` and `splice` fail, and that a run that failed stays failed
pub use Rattle.lcm_machine.proofs.Refusals.{failed_more, splice_fails, split_fails, stops, store_fails}
pub use Rattle.lcm_machine.proofs.Refusals.{then_failed}
-- where an `xjmp` fails
pub use Rattle.lcm_machine.proofs.XjmpFails.{opened-memory, xjmp_fails, xjmp_runs_fails}
-- the row, the fetch and the step of a mapped state
pub use Rattle.lcm_machine.proofs.Commute.{OpensSame, fetch_by, fetch_commutes, fetch_mapped, is_linear-face}
pub use Rattle.lcm_machine.proofs.Commute.{plan-opens, row_mapped, step_mapped}
