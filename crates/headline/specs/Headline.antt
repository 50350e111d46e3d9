-- The headline. For all trusted parts that keep the rules and every untrusted part that links with them: at
-- each matched point the plain machine halts, fails or goes on as the overlay does, each return resumes the
-- newest open call, and no instruction between touches that call's private frame. docs/THEOREMS.md has it in
-- words.
use Rattle.std.specs.Prelude.{◌≡◌, ◌↔◌, ℕ, ◌+◌, ◌≤◌, ◌<◌, ◌++◌, ℤ, Bool, false, List, [], ◌∷◌, Some, None}
use Rattle.cap_words.specs.declared.Word.{Word}
use Rattle.lcm_isa.specs.declared.Reg.TheVariants.{A0}
use Rattle.lcm_machine.specs.declared.FailCause.{FailCause}
use Rattle.lcm_machine.specs.declared.End.{End}
use Rattle.lcm_machine.specs.declared.End.TheVariants.{Halted, Failed}
use Rattle.lcm_machine.specs.Places.{reg}
use Rattle.lcm_machine.specs.Run.{plain}
use Rattle.lcm_machine.specs.Touched.{Untouched}
use Rattle.linked_starts.specs.Parts.{PartSeen}
use Rattle.linked_starts.specs.Started.{StartSeen}
use Rattle.linked_starts.specs.LinkedStarts.{IsLinkedStart}
use Rattle.overlay_machine.specs.State.{OState}
use Rattle.overlay_machine.specs.Step.{goes, halts, fails, overlay_step, weight_of}
use Rattle.overlay_machine.specs.Flat.{IsFlat}
use Rattle.overlay_machine.specs.Runs.{Reached}
use Rattle.overlay_machine.specs.Brackets.{Brackets, Depth}
use Rattle.overlay_machine.specs.Starting.{StartThere, overlay_at}
use Rattle.run_lines.specs.Layout.{layout}
use Rattle.run_lines.specs.Views.{flat_view}
use Rattle.run_lines.specs.Lines.{Line, Args, call, ret}
use Rattle.run_lines.specs.Runs.{written}
use Rattle.run_lines.specs.Told.{Told, StopsAt}
use Rattle.run_lines.specs.Cuts.{Matched, cut, cut_overlay}
use Rattle.run_lines.specs.Traces.{trace_of}
use Rattle.headline.specs.OpenCalls.{LineTold}
use Rattle.headline.specs.Brackets.{marks_in, IsRet}

-- ---- the words of it

-- the overlay's next step halts, or fails
abbrev pub OverlayHalts : StartSeen → OState → Type 0
OverlayHalts s p = overlay_step (layout s) p ≡ halts

abbrev pub OverlayFails : StartSeen → OState → Type 0
OverlayFails s p = overlay_step (layout s) p ≡ fails

-- n instructions of the plain run go, and the next one ends it
pub record PlainEnds (s : StartSeen) (n : ℕ) (e : End) : Type 0 where
  pub goes : (plain n s.state).end ≡ None
  pub ends : (plain (n + 1) s.state).end ≡ Some e

-- the instruction after n others lies within the weight of the step at a matched point
abbrev pub WithinStep : StartSeen → ℕ → ℕ → OState → Type 0
WithinStep s n j p = Matched s j p × (j ≤ n) × (n < j + weight_of (layout s) p)

-- ---- the plain machine halts, fails or goes on as the overlay does

pub record Agrees (s : StartSeen) : Type 0 where
  -- at each matched point the plain machine has gone on, to the state that the overlay stands for
  pub matched : (j : ℕ) (p : OState) → Matched s j p
      → ((plain j s.state).end ≡ None) × IsFlat (layout s) p (plain j s.state).maps
  -- it halts exactly where the overlay halts, with one instruction, and both have the same word in a0
  pub halts : (n : ℕ) → PlainEnds s n Halted
      ↔ (Matched s n (cut_overlay s n) × OverlayHalts s (cut_overlay s n))
  pub alike : (n : ℕ) (p : OState) → Matched s n p → OverlayHalts s p
      → (weight_of (layout s) p ≡ 1)
      × (reg (plain (n + 1) s.state).maps.regs A0 ≡ (flat_view (layout s) p).reg A0)
  -- where it fails, the overlay fails at the cut point, and the instruction lies within the weight of that
  -- step; where the overlay fails, so does the plain machine, within that weight
  pub plain_fails : (n : ℕ) (cause : FailCause) (at : ℤ) → PlainEnds s n (Failed cause at)
      → WithinStep s n (cut s n).at (cut_overlay s n) × OverlayFails s (cut_overlay s n)
  pub overlay_fails : (j : ℕ) (p : OState) → Matched s j p → OverlayFails s p
      → (n : ℕ) × (cause : FailCause) × (at : ℤ) × WithinStep s n j p × PlainEnds s n (Failed cause at)
  -- where it has gone on, it stands less than the next weight after the cut point
  pub goes : (n : ℕ) → (plain n s.state).end ≡ None
      → WithinStep s n (cut s n).at (cut_overlay s n)

-- ---- what is written

-- the event lines that `run` writes are those of the overlay's steps up to the cut point, the greatest
-- matched point that is at most so many instructions
abbrev pub LinesOfSteps : StartSeen → ℕ → Type 0
LinesOfSteps s n =
    Told (layout s) (overlay_at s).state (cut s n).at (written s n) (cut_overlay s n)
    × StopsAt (layout s) n (cut s n).at (cut_overlay s n)

-- a call line is open until a ret line closes it, and each ret line closes the newest open one, with its
-- part, site, base, last and words; at first none is open
abbrev pub AreBracketed : List Line → Type 0
AreBracketed lines = (open_now : List LineTold) × Brackets LineTold [] (marks_in lines) open_now

-- ---- no instruction between touches a call's private frame

-- a range, from a matched point on that lies after n instructions and at which the overlay is q
pub record RangeIsLeftAlone (s : StartSeen) (n : ℕ) (q : OState) (base last : ℕ) : Type 0 where
  -- up to each matched point m instructions later, where the lines up to it close no call line that was open
  -- before them, no instruction touches an address of the range
  pub while_open : (m e a : ℕ) (r : OState) (more : List Line) → Reached (layout s) q m r
      → written s (n + m) ≡ written s n ++ more → Depth (marks_in more) 0 e
      → base ≤ a → a ≤ last → Untouched (λ w. w) (λ w. w) a m (plain n s.state).maps
  -- and where the step from there on brings a ret line, neither does its first instruction, the `xjmp` that
  -- reaches the return sequence
  pub up_to_ret : (m e a : ℕ) (r next : OState) (more line : List Line) → Reached (layout s) q m r
      → written s (n + m) ≡ written s n ++ more → Depth (marks_in more) 0 e
      → overlay_step (layout s) r ≡ goes next
      → written s (n + m + weight_of (layout s) r) ≡ written s (n + m) ++ line → IsRet line
      → base ≤ a → a ≤ last → Untouched (λ w. w) (λ w. w) a (m + 1) (plain n s.state).maps

-- so it is of the range of each step that writes a call line, from after the `xjmp` of its call on
abbrev pub FramesAreLeftAlone : StartSeen → Type 0
FramesAreLeftAlone s =
    (j : ℕ) (p q : OState) → Matched s j p → overlay_step (layout s) p ≡ goes q
    → (inward : Bool) (part : List ℕ) (site base last : ℕ) (args : Args) (words : List Word)
    → written s (j + weight_of (layout s) p) ≡ written s j ++ call inward part site base last args words ∷ []
    → RangeIsLeftAlone s (j + weight_of (layout s) p) q base last

-- A call line stands in the lines of n instructions: from a matched point on, at which just the lines before
-- it are written, one step within these instructions writes it and nothing else, and its range is left alone
-- from after that step's `xjmp` on.
pub record LineIsPrivate (s : StartSeen) (n : ℕ) (before : List Line) (line : Line)
    (base last : ℕ) : Type 0 where
  pub at : ℕ
  pub caller : OState
  pub called : OState
  pub matched : Matched s at caller
  pub goes : overlay_step (layout s) caller ≡ goes called
  pub within : at + weight_of (layout s) caller ≤ n
  pub before_it : written s at ≡ before
  pub with_it : written s (at + weight_of (layout s) caller) ≡ before ++ line ∷ []
  pub alone : RangeIsLeftAlone s (at + weight_of (layout s) caller) called base last

-- so it is of each call line that is written
abbrev pub EachCallIsPrivate : StartSeen → Type 0
EachCallIsPrivate s =
    (n : ℕ) (before after : List Line)
    → (inward : Bool) (part : List ℕ) (site base last : ℕ) (args : Args) (words : List Word)
    → written s n ≡ before ++ call inward part site base last args words ∷ after
    → LineIsPrivate s n before (call inward part site base last args words) base last

-- ---- all of it

pub record Headline (s : StartSeen) : Type 0 where
  pub agrees : Agrees s
  pub lines : (n : ℕ) → LinesOfSteps s n
  -- a trace up to so many instructions writes the same lines
  pub traced : (n : ℕ) → (trace_of n (overlay_at s)).lines ≡ written s n
  -- each return resumes the newest open call
  pub bracketed : (n : ℕ) → AreBracketed (written s n)
  -- no instruction between touches a call's private frame: of each step that writes a call line, and of each
  -- call line that is written
  pub private : FramesAreLeftAlone s
  pub each_call : EachCallIsPrivate s

-- of every linked start
abbrev pub HeadlineHolds : Type 0
HeadlineHolds = (parts : List PartSeen) (size : ℕ) (s : StartSeen) → IsLinkedStart parts size s → Headline s

-- ---- that it speaks of something

-- a start of a trusted part and of one that isn't, whose run writes a call line and then its ret line
pub record CallThere : Type 0 where
  pub there : StartThere
  pub n : ℕ
  pub part : List ℕ
  pub site : ℕ
  pub base : ℕ
  pub last : ℕ
  pub args : Args
  pub a0 : Word
  pub words : List Word
  pub lines : written there.start n
      ≡ call false part site base last args words ∷ ret false part site base last a0 words ∷ []
