-- The same of the plain machine: which cells of the stack it holds 0 in where sources let go of control.
use Rattle.std.specs.Prelude.{◌≡◌, ℕ, ◌≤◌, pos, true, false, List, length, map, Option, None, Some}
use Rattle.cap_words.specs.declared.Word.{Word}
use Rattle.cap_words.specs.declared.Word.TheVariants.{Int, Mem}
use Rattle.lcm_isa.specs.declared.Reg.TheVariants.{Stk}
use Rattle.lcm_machine.specs.Places.{reg}
use Rattle.lcm_machine.specs.Cells.{cell}
use Rattle.lcm_machine.specs.Run.{plain}
use Rattle.call_sequence.specs.SequenceRuns.{IsOutsideRange, stack_cap}
use Rattle.linked_starts.specs.Started.{StartSeen}
use Rattle.overlay_machine.specs.declared.words.OWord.{OWord}
use Rattle.overlay_machine.specs.State.{OState}
use Rattle.overlay_machine.specs.Step.{goes, overlay_step}
use Rattle.overlay_machine.specs.Link.{Link}
use Rattle.run_lines.specs.Layout.{layout}
use Rattle.run_lines.specs.Cuts.{Matched}
use Rattle.proc_language.specs.declared.module.ModuleFields.{ModuleFields}
use Rattle.proc_program.specs.Lower.{part_of}
use Rattle.proc_semantics.specs.Marked.{Thing}
use Rattle.template_runs.specs.Runs.{is_inside}
use Rattle.template_runs.specs.Border.{low_at}
use Rattle.source_laws.specs.Seen.{Back, Shown}
use Rattle.source_laws.specs.Wiped.{TellsSince, WipedTold}
use Rattle.source_starts.specs.Links.{Linking, overlay_link, first_state}
use Rattle.source_starts.specs.Sources.{LinkedSources}
use Rattle.source_starts.specs.PlainSecrets.{InReach}

-- After so many instructions code outside ran last, or the run began in trusted code, and after so many it
-- has let go: stk is the stack up to an end, its cells from the lowest wiped one to that end hold 0, and each
-- word in reach in another cell was in reach there after the first ones.
pub record PlainWiped (g : Link) (s : StartSeen) (low : Option ℕ) (b q : OState) : Type 0 where
  pub from : ℕ
  pub to : ℕ
  pub come : Matched s from b
  pub gone : Matched s to q
  pub later : from ≤ to
  pub went : (plain to s.state).end ≡ None
  pub end : ℕ
  pub stk : reg (plain to s.state).maps.regs Stk ≡ Mem (stack_cap g.layout.stack.base end end)
  pub wiped : (a : ℕ) → low_at g.layout.stack.base end low ≤ a → a ≤ end
      → cell (plain to s.state).maps.cells a ≡ Some (Int (pos 0))
  pub kept : (a : ℕ) (w : Word) → IsOutsideRange a (low_at g.layout.stack.base end low) end
      → InReach g s to q a w → InReach g s from b a w

-- the lowest wiped cell is the one that the refined meaning tells of
pub record PlainWipedTold (modules : List ModuleFields) (a : Linking) (es : List Shown)
    (is : List (Thing OWord Back)) (b q : OState) : Type 0 where
  pub overlay :
      WipedTold (overlay_link a) (map part_of modules) a.size (map (λ x. x.item) is) (length es) b q
  pub plain : PlainWiped (overlay_link a) a.start overlay.low b q

-- wherever the sources of a start let go of control
abbrev pub PlainWipedAlways : List ModuleFields → Linking → Type 0
PlainWipedAlways modules a =
    (es : List Shown) (is : List (Thing OWord Back)) (b p q : OState)
    → TellsSince (layout a.start) (first_state a) es is b p → is_inside (layout a.start) p ≡ true
    → overlay_step (layout a.start) p ≡ goes q → is_inside (layout a.start) q ≡ false
    → PlainWipedTold modules a es is b q

abbrev pub PlainRunsWipe : Type 0
PlainRunsWipe = (a : LinkedSources) → PlainWipedAlways a.modules a.link
