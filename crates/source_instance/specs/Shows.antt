-- That the laws of what sources show speak of something: of the same run, in which a procedure of the module
-- is entered, calls out, is answered, and leaves.
use Rattle.std.specs.Prelude.{◌≡◌, ℕ, ◌≤◌, true, false, List, [], ◌∷◌, Some}
use Rattle.lcm_machine.specs.Cells.{cell}
use Rattle.overlay_machine.specs.declared.words.OWord.{OWord}
use Rattle.overlay_machine.specs.State.{OpenFrame, OState}
use Rattle.overlay_machine.specs.Step.{goes, overlay_step}
use Rattle.run_lines.specs.Layout.{layout}
use Rattle.proc_semantics.specs.Marked.{Thing}
use Rattle.template_runs.specs.Runs.{is_inside}
use Rattle.template_runs.specs.Border.{zero, Opened, ShowsCall, ShowsLeave}
use Rattle.source_laws.specs.Seen.{Back, Shown}
use Rattle.source_laws.specs.Secrets.{LetsGo, ShowsNoMore}
use Rattle.source_laws.specs.Wiped.{TellsSince}
use Rattle.source_starts.specs.Links.{overlay_link, first_state}
use Rattle.source_starts.specs.Sources.{LinkedSources}
use Rattle.source_starts.specs.PlainWiped.{PlainWipedTold}

-- the sources let go with a step, before which so much had left and come, and code outside ran last in a
-- state; and what the laws say of it
pub record LetsGoThere (a : LinkedSources) (es : List Shown) (is : List (Thing OWord Back)) (b p q : OState)
    : Type 0 where
  pub since : TellsSince (layout a.start) (first_state a.link) es is b p
  pub inside : is_inside (layout a.start) p ≡ true
  pub steps : overlay_step (layout a.start) p ≡ goes q
  pub gone : is_inside (layout a.start) q ≡ false
  pub come : OState
  pub lets_go : LetsGo a.start come p q
  pub shows : ShowsNoMore (overlay_link a.link) come p q
  pub told : PlainWipedTold a.modules a.link es is b q

pub record SourceShows : Type 0 where
  pub sources : LinkedSources
  -- the stack is that of the addresses from 111 to 118
  pub base : (layout sources.start).stack.base ≡ 111
  pub end : (layout sources.start).stack.end ≡ 118
  -- code outside enters a procedure, which calls out: that pair is opened, the frame is from 116 to 118, and
  -- the arguments are 0
  pub outside : OState
  pub calling : OState
  pub called : OState
  pub entry : Thing OWord Back
  pub calls : LetsGoThere sources [] (entry ∷ []) outside calling called
  pub pair : Opened
  pub frame : OpenFrame
  pub frame_base : frame.base ≡ 116
  pub frame_end : frame.end ≡ 118
  pub call_shown : ShowsCall (layout sources.start) pair frame called
  pub a0 : called.maps.regs.a0 ≡ zero
  pub a1 : called.maps.regs.a1 ≡ zero
  pub a2 : called.maps.regs.a2 ≡ zero
  pub a3 : called.maps.regs.a3 ≡ zero
  -- the stack up to 115 is given away, and the lowest wiped cell lies above it
  pub given : calls.told.overlay.wiped.end ≡ 115
  pub call_low : calls.told.overlay.low ≡ Some 6
  -- it is answered, and leaves by the same pair, with 0 and the whole stack
  pub leaving : OState
  pub left : OState
  pub call : Shown
  pub answer : Thing OWord Back
  pub leaves : LetsGoThere sources (call ∷ []) (entry ∷ answer ∷ []) called leaving left
  pub leave_shown : ShowsLeave (layout sources.start) pair 118 left
  pub value : left.maps.regs.a0 ≡ zero
  -- the cells of the frame are wiped
  pub given_back : leaves.told.overlay.wiped.end ≡ 118
  pub leave_low : leaves.told.overlay.low ≡ Some 5
  pub wiped : (a : ℕ) → 116 ≤ a → a ≤ 118 → cell left.maps.cells a ≡ Some zero
