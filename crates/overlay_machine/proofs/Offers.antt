-- What the crates above cite: lemmas over the definitions of `specs/`, by what they are of.

-- the cells of frames stay out of memory
pub use Rattle.overlay_machine.proofs.OutLemmas.{put_back-other}
-- flattened words of known kinds, and code that stands in the flattened memory
pub use Rattle.overlay_machine.proofs.FlatLemmas.{HasCall-flat, HasEntry-flat, HasReturn-flat, beside-none}
pub use Rattle.overlay_machine.proofs.FlatLemmas.{cell-flat, flat-mem, flat-opened, mem_of_face}
-- the words of frames, and the frame of a call
pub use Rattle.overlay_machine.proofs.FrameWords.{all_there-from, frame_of-newest, put_back-in, some_of}
pub use Rattle.overlay_machine.proofs.FrameWords.{word_of-within, words_from-at}
-- what is in the words of a call's pair, once they are flattened
pub use Rattle.overlay_machine.proofs.PairsOpened.{OneSite, code_site, data_refuses, data_site}
pub use Rattle.overlay_machine.proofs.PairsOpened.{foreign_refuses, opened-code, opened-data}
-- what it says that stk is the own stack
pub use Rattle.overlay_machine.proofs.OwnStack.{own_from, own_is, same_lin_true, stack_of}
-- a call: its site, its stack, and the state before its `xjmp`
pub use Rattle.overlay_machine.proofs.CallAgrees.{dat_normal, its_site, owns, plain_row, t15}
-- where a call stands, and that no frame has a word there
pub use Rattle.overlay_machine.proofs.WholeCall.{lowest, outside}
-- a return: the words of its pair opened, and the state after its `xjmp`
pub use Rattle.overlay_machine.proofs.ReturnAgrees.{code_is, code_none, code_second, code_some, data_is}
pub use Rattle.overlay_machine.proofs.ReturnAgrees.{data_none, jumps, plain_second, refuses, s1, stk_kept}
pub use Rattle.overlay_machine.proofs.ReturnAgrees.{stk_plain}
-- every other step is one plain step
pub use Rattle.overlay_machine.proofs.OtherAgrees.{free_pc, plain_both}
-- each step has some weight; what carries on to runs holds at each matched point
pub use Rattle.overlay_machine.proofs.RunsAgree.{good_at, weight_some}
-- brackets and depths under a map
pub use Rattle.overlay_machine.proofs.BracketLemmas.{depth_unmapped, mapped, mark_map}
-- what calls and returns tell of frames along a run
pub use Rattle.overlay_machine.proofs.Marks.{AreBracketed, Marked, OpenedArePrivate, StaysPrivate, and_then}
pub use Rattle.overlay_machine.proofs.Marks.{flat_cell, if_there, marks_by, marks_of, none_yet, words_at}
-- what linked parts say of addresses
pub use Rattle.overlay_machine.proofs.invariant.Facts.{code_small, in_code, in_stack, mem_safe, not_trusted}
pub use Rattle.overlay_machine.proofs.invariant.Facts.{one_part, open_safe, open_stack_at, safe_stk}
pub use Rattle.overlay_machine.proofs.invariant.Facts.{same_region, seals_safe, stack_apart, stack_cells}
pub use Rattle.overlay_machine.proofs.invariant.Facts.{stack_order, stack_small, stack_there}
-- where words lead to, by their faces
pub use Rattle.overlay_machine.proofs.invariant.Targets.{target_bounds, target_reg}
-- what frames in order say of calls and addresses
pub use Rattle.overlay_machine.proofs.invariant.FrameFacts.{below_all, contains_first, contains_rest}
pub use Rattle.overlay_machine.proofs.invariant.FrameFacts.{frame_in, frame_known, frame_none, frame_of-cons}
pub use Rattle.overlay_machine.proofs.invariant.FrameFacts.{has_word, lies_of}
-- which kind of step comes, from where pc is
pub use Rattle.overlay_machine.proofs.invariant.View.{View, at_entry, failing, in_part, out, pc_untrusted}
pub use Rattle.overlay_machine.proofs.invariant.View.{site_of, view}
-- a safe capability for seals leads to open seals
pub use Rattle.overlay_machine.proofs.invariant.SafeClosed.{open_seal, safe_closed}
-- an `xjmp` of safe words goes onto safe code with safe data, or onto an entry of a trusted part with its
-- data capability
pub use Rattle.overlay_machine.proofs.invariant.Crossing.{Crossed, Leads_to, code_is as crossing_code_is}
pub use Rattle.overlay_machine.proofs.invariant.Crossing.{entry_begins, half_seal, leads_to, to_entry}
pub use Rattle.overlay_machine.proofs.invariant.Crossing.{to_safe, whole_data, xjmp_crossed}
-- the invariant makes the next step ready
pub use Rattle.overlay_machine.proofs.invariant.Ready.{entry_kind, foreign, looks, ready}
-- registers but pc, and whether an instruction is an `xjmp`
pub use Rattle.overlay_machine.proofs.invariant.OtherKept.{is_xjmp, pc_false, plain_is, went_other}
-- when the newest frame goes, all words but its RetData stay safe
pub use Rattle.overlay_machine.proofs.invariant.Popped.{framed_at}
-- how many words are read
pub use Rattle.overlay_machine.proofs.invariant.FramesKept.{length-words_from}
-- an entry is no other kind of step
pub use Rattle.overlay_machine.proofs.invariant.EntryKept.{never_call, never_entry}
-- a return that goes, with its parts
pub use Rattle.overlay_machine.proofs.invariant.ReturnKept.{Returned, returned}
-- a call that goes, with its parts; a word that shows a capability
pub use Rattle.overlay_machine.proofs.invariant.CallKept.{Called, called, mem_plain}
-- each step keeps the invariant
pub use Rattle.overlay_machine.proofs.invariant.Kept.{kept}
-- a sequence stands without a cell outside its part's code
pub use Rattle.overlay_machine.proofs.invariant.SequencesLacking.{return_lacking}
-- a step that doesn't touch an address
pub use Rattle.overlay_machine.proofs.invariant.StepQuiet.{back_first, newest_first, other_quiet}
pub use Rattle.overlay_machine.proofs.invariant.StepQuiet.{untouched_one}
-- a plain word is no code half
pub use Rattle.overlay_machine.proofs.invariant.FramePrivate.{no_ret_code, stays_open, where_is}
-- runs are told by marks, bracketed, with the invariant at each matched point; what a list has at an index
pub use Rattle.overlay_machine.proofs.invariant.Bracketed.{bracketed, found_at, map_get, matched, numbered_is}
pub use Rattle.overlay_machine.proofs.invariant.Bracketed.{reached}
-- the range of each frame that opens is private
pub use Rattle.overlay_machine.proofs.invariant.MarksPrivate.{opened_private}
-- what a search in a list finds
pub use Rattle.overlay_machine.proofs.starts.ListFacts.{any_is, any_of, found_is, index_of, listed_at}
pub use Rattle.overlay_machine.proofs.starts.ListFacts.{only_found, position_is}
-- the names and numbers that the layout of a linked start tells of its trusted parts
pub use Rattle.overlay_machine.proofs.starts.NameFacts.{starts_tell_names}
-- the words of a start are safe
pub use Rattle.overlay_machine.proofs.starts.StartSafe.{stack_safe}
-- the overlay of a linked start
pub use Rattle.overlay_machine.proofs.starts.OneOverlay.{is_overlay, start_word_is}
-- the instance of linked parts
pub use Rattle.overlay_machine.proofs.starts.StartInstance.{is_linked, start_there}
