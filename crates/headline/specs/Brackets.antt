-- What call and ret lines tell of frames, that they are bracketed, and that what they tell of is private.
use Rattle.std.specs.Prelude.{◌≡◌, ℕ, ◌+◌, ◌≤◌, Bool, List, [], ◌∷◌, ◌++◌, map}
use Rattle.cap_words.specs.declared.Word.{Word}
use Rattle.lcm_machine.specs.Maps.{State}
use Rattle.lcm_machine.specs.Row.{went}
use Rattle.lcm_machine.specs.Touched.{Untouched}
use Rattle.trusted_border.specs.declared.layout.Layout.{Layout}
use Rattle.overlay_machine.specs.State.{OpenFrame, OState}
use Rattle.overlay_machine.specs.Step.{goes, overlay_step, weight_of}
use Rattle.overlay_machine.specs.Seen.{OverlaySeen}
use Rattle.overlay_machine.specs.Runs.{plain_run}
use Rattle.overlay_machine.specs.Brackets.{FrameTold, Mark, opens, closes, Brackets, frames_told, Depth}
use Rattle.run_lines.specs.Layout.{part_name, site_of}
use Rattle.run_lines.specs.Lines.{Args, Line, call, ret, enter, pass, leave}
use Rattle.headline.specs.OpenCalls.{LineTold}
use Rattle.run_lines.specs.Told.{step_lines, Told}
use Rattle.run_lines.specs.Traces.{trace_of}

-- the lines are one ret line
abbrev pub IsRet : List Line → Type 0
IsRet ls =
    (inward : Bool) × (part : List ℕ) × (site : ℕ) × (base : ℕ) × (last : ℕ) × (a0 : Word)
    × (words : List Word)
    × (ls ≡ ret inward part site base last a0 words ∷ [])

-- a call line opens, and a ret line closes
abbrev pub mark_of : Line → List (Mark LineTold)
mark_of (call inward part site base last args words) =
    opens (record { part = part; site = site; base = base; last = last; words = words }) ∷ []
mark_of (ret inward part site base last a0 words) =
    closes (record { part = part; site = site; base = base; last = last; words = words }) ∷ []
mark_of (enter part export stk args back) = []
mark_of (pass p0 p1 p2) = []
mark_of (leave part a0) = []

abbrev pub marks_in : List Line → List (Mark LineTold)
marks_in [] = []
marks_in (x ∷ xs) = mark_of x ++ marks_in xs

-- the frames of an overlay, newest first, as their lines tell them
abbrev pub line_told : Layout → FrameTold → LineTold
line_told l f = record {
  part = part_name l (site_of l f.site).part;
  site = (site_of l f.site).index;
  base = f.base;
  last = f.end;
  words = f.words;
}

abbrev pub lines_told : Layout → List OpenFrame → List LineTold
lines_told l fs = map (line_told l) (frames_told l fs)

-- A call line is open until a ret line closes it. Each ret line closes the newest open call line, and has its
-- part, site, base, last and words: from the frames that are open to those that are open then.
abbrev pub LinesAreBracketed : Layout → OState → Type 0
LinesAreBracketed l o =
    (j : ℕ) (ls : List Line) (p : OState) → Told l o j ls p
    → Brackets LineTold (lines_told l o.frames) (marks_in ls) (lines_told l p.frames)

-- so are the lines that a trace writes, up to its end
abbrev pub TraceIsBracketed : OverlaySeen → Type 0
TraceIsBracketed o =
    (limit : ℕ)
    → Brackets LineTold (lines_told o.layout o.state.frames) (marks_in (trace_of limit o).lines)
    (lines_told o.layout (trace_of limit o).overlay.state.frames)

-- From an overlay and its plain state on: as long as the lines close no call line that was open before, no
-- plain instruction touches an address of a range; and where the next step brings the ret line that does,
-- neither does the first instruction of that step, which is its `xjmp`.
pub record RangeIsPrivate (l : Layout) (q : OState) (u : State Word) (base last : ℕ) : Type 0 where
  pub while_open : (j e a : ℕ) (ls : List Line) (r : OState) → Told l q j ls r → Depth (marks_in ls) 0 e
      → base ≤ a → a ≤ last → Untouched (λ w. w) (λ w. w) a j u
  pub up_to_ret : (j e a : ℕ) (ls : List Line) (r next : OState) → Told l q j ls r → Depth (marks_in ls) 0 e
      → IsRet (step_lines l r next) → base ≤ a → a ≤ last → Untouched (λ w. w) (λ w. w) a (j + 1) u

-- so it is of the range of each call line that is told from an overlay on, from the plain state after its
-- `xjmp`
abbrev pub CallsArePrivate : Layout → OState → State Word → Type 0
CallsArePrivate l o t =
    (j : ℕ) (ls : List Line) (p q : OState) (u : State Word)
    → (inward : Bool) (part : List ℕ) (site base last : ℕ) (args : Args) (words : List Word)
    → Told l o j ls p → overlay_step l p ≡ goes q → plain_run (j + weight_of l p) t ≡ went u
    → step_lines l p q ≡ call inward part site base last args words ∷ [] → RangeIsPrivate l q u base last
