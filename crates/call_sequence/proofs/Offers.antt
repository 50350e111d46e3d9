-- What the crates above cite: lemmas over the definitions of `specs/`, by what they are of.

-- there is one answer that is right of the flow of a component's code
pub use Rattle.call_sequence.proofs.OneVerdict.{flow_answer_is, flow_is}
-- what the walk says of each word, where no rule is broken
pub use Rattle.call_sequence.proofs.Walks.{Inside, ListsKept, no_row_inside}
-- what the rules of the lists say of the code's offsets
pub use Rattle.call_sequence.proofs.Placed.{entry_within, placed_lists}
-- what holds at each offset of code whose flow is kept
pub use Rattle.call_sequence.proofs.LocalFacts.{entry_flows, site_flows}
-- rows after a kind was set, and words whose kind is below another
pub use Rattle.call_sequence.proofs.Fitting.{is_safe, row_fits}
-- an instruction that goes leaves registers that fit the row after it
pub use Rattle.call_sequence.proofs.Kept.{crosses}
-- a step of trusted code outside its sequences
pub use Rattle.call_sequence.proofs.Steps.{Kept_rest, Next, StandsAt, goes_to_area, out, shows_at_xjmp}
pub use Rattle.call_sequence.proofs.Steps.{step_kept, to_fail, to_row}
-- what the walk itself rests on
pub use Rattle.call_sequence.proofs.Ascending.{Ascends, before_sites, find_here, find_none, no_site, parted}
pub use Rattle.call_sequence.proofs.Ascending.{rows_up, site_begins, sites_up, split_is, within_last}
pub use Rattle.call_sequence.proofs.Entries.{LeastOf, k3_is, least_more, least_same}
pub use Rattle.call_sequence.proofs.Listing.{difference_first, has_room}
pub use Rattle.call_sequence.proofs.Rowed.{each_outside, entry_outside, no_row, row_is, row_none}
pub use Rattle.call_sequence.proofs.Verdicts.{lists_broken, lists_kept, walk_decides}
pub use Rattle.call_sequence.proofs.Walks.{none_behind, passed_over, rises}
-- numbers that sequences reckon with, and code that stands as before where a cell outside it is set
pub use Rattle.call_sequence.proofs.LawLemmas.{fits_small, leads, near_operand, small_operand}
-- what the words of a call do, for words of any kind
pub use Rattle.call_sequence.proofs.CallLaws.{call_at_base, call_jumps, call_outside, call_runs, xjmp_stands}
-- what the words of a return do, for words of any kind
pub use Rattle.call_sequence.proofs.ReturnLaws.{HasReturn-set, clearing_stands, return_apart, return_nine}
pub use Rattle.call_sequence.proofs.ReturnLaws.{return_off_base, return_runs, return_tests, return_turns}
-- what the words of an entry do, for words of any kind
pub use Rattle.call_sequence.proofs.EntryLaws.{entry_fails, entry_runs}
-- rows that go straight on, and what the steps of code touch
pub use Rattle.call_sequence.proofs.Straight.{performed_num}
pub use Rattle.call_sequence.proofs.Passing.{stands_kept, target_code}
-- what the words of the sequences do one by one, for words of any kind
pub use Rattle.call_sequence.proofs.SequenceWalks.{apart_touches, at_load, call_words, entry_words}
pub use Rattle.call_sequence.proofs.SequenceWalks.{joint_return_words, load_touches, off_touches}
pub use Rattle.call_sequence.proofs.SequenceWalks.{return_words, runs_to_load}
