-- What the crates above cite: lemmas over the definitions of `specs/`, by what they are of.

-- the check of a callback
pub use Rattle.template_runs.proofs.Checks.{at_fail, fail_pc_law, half_fails, half_goes, half_tested, is_half}
-- words that set one register, and words of the part's data, with the data register anywhere
pub use Rattle.template_runs.proofs.Data.{Away, dat_law, load_data_law, mem_other, mem_same, mem_with}
pub use Rattle.template_runs.proofs.Data.{not_free, set_law, store_data_law, with_data, with_reg}
-- the epilogue, from its first word to the `xjmp` that ends it
pub use Rattle.template_runs.proofs.Epilogue.{Left, epilogue, epilogue_law, pops}
-- numbers that templates reckon with
pub use Rattle.template_runs.proofs.Numbers.{fits_small, zero_more}
-- the rows of the table of templates, over the overlay's steps
pub use Rattle.template_runs.proofs.Rows.{DataIs, Free, Here, load_law, loaded, store_law}
-- words in the slots of a frame, and in the data of trusted parts
pub use Rattle.template_runs.proofs.Slots.{SameBelow, get_other, get_with, length-with_at, with_at}
-- the ordinary step of trusted code, as its row of the table has it
pub use Rattle.template_runs.proofs.Steps.{At, Code, Placed, halt, inside_here, next_pc, stop}
-- what holds at each state of a linked run, and how a step keeps it
pub use Rattle.template_runs.proofs.Valid.{Valid, fails_not, goes_same, halts_not, mem_public, zero_public}
-- a procedure's entry, and the prologue
pub use Rattle.template_runs.proofs.Entries.{Reads, entered, entry_fails, entry_law, none_fits, prologue}
pub use Rattle.template_runs.proofs.Entries.{prologue_law}
-- a call of trusted code, and what it is to be back from it
pub use Rattle.template_runs.proofs.Calls.{Pair, SiteHere, above, all, at_back, call_makes, called_data}
pub use Rattle.template_runs.proofs.Calls.{called_own, called_stk, called_to, called_valid, case_call}
pub use Rattle.template_runs.proofs.Calls.{here_back, own, within_stack}
-- what a step of untrusted code does
pub use Rattle.template_runs.proofs.Outside.{Leaves, Out, SameData, enters, leaves, open_no_owner, opened_is}
pub use Rattle.template_runs.proofs.Outside.{outside_here, returns, safe_outside, stays, unsealed_public}
-- the `xjmp` that ends a procedure
pub use Rattle.template_runs.proofs.Ends.{Keeps, back_makes, back_returned, back_valid, case_is, resumed_to}
pub use Rattle.template_runs.proofs.Ends.{weight_small}
-- what the layout of a linked start calls its trusted parts, their entries and their sites
pub use Rattle.template_runs.proofs.Named.{Named, named}
-- what is told of a pair of words in rcode and rdata is what an `xjmp` of them does
pub use Rattle.template_runs.proofs.Back.{Tells, TrustedOut, fails_bad, goes_in, goes_out, need_halts, tells}
-- words of which one alone is of a pair
pub use Rattle.template_runs.proofs.Mixed.{if_bad, mixed}
-- where the pieces of a procedure's code stand in a part
pub use Rattle.template_runs.proofs.Standing.{Called, One, Stand, guarded, stand_at, stand_back, stand_front}
pub use Rattle.template_runs.proofs.Standing.{words-append, words_in, words_of}
-- an element of an array
pub use Rattle.template_runs.proofs.Elements.{below_fails, free_a0, free_a1, free_a2, free_a3, free_c1}
pub use Rattle.template_runs.proofs.Elements.{free_c2, free_g0, free_g1, free_g2, free_t2, from_element}
pub use Rattle.template_runs.proofs.Elements.{index_goes, index_tests, past_fails, to_element}
-- the jumps of bodies
pub use Rattle.template_runs.proofs.Jumps.{back_law, branch_goes, branch_stays, jump_law}
-- the words of the four operators, with the operands in g0 and g1
pub use Rattle.template_runs.proofs.Operators.{operator_fails, operator_goes, value_by}
-- what registers hold at an entry, and a prologue for which the stack is too small
pub use Rattle.template_runs.proofs.Entering.{entry_safe, prologue_fails}
-- the value of a call from outside, and where untrusted code runs
pub use Rattle.template_runs.proofs.Taking.{flat_int, int_back, out_of, take_fails, take_law, took}
-- what stretches of a run leave in the cells that code outside could reach, beside cells that are live
pub use Rattle.template_runs.proofs.Clean.{Clean, IsLower, Live, NotIn, clean_anew, clean_answered}
pub use Rattle.template_runs.proofs.Clean.{clean_back, clean_begins, clean_call, clean_ends, clean_first}
pub use Rattle.template_runs.proofs.Clean.{clean_pending, clean_same, clean_set, clean_wiped, ended}
pub use Rattle.template_runs.proofs.Clean.{first_back, none, untold, used}
-- what a run of at most so many steps shows at each point at which trusted code lets go of control, told from
-- a state with live cells, in which the procedures that code outside entered at some states have not ended
pub use Rattle.template_runs.proofs.Quiet.{Among, Comes, Ends, Lets, Owing, Quiet, Stays, behind, depth}
pub use Rattle.template_runs.proofs.Quiet.{ends_later, ends_now, later_in, now, now_in, quiet_ended}
pub use Rattle.template_runs.proofs.Quiet.{quiet_fewer, quiet_none, quiet_out, quiet_outside, quiet_step}
-- what registers hold where trusted code lets go of control
pub use Rattle.template_runs.proofs.Shows.{given_there, half_is, pair_left, shows_call, shows_leave}
