-- The same of the plain machine: what it holds where sources let go of control.
use Rattle.std.specs.Prelude.{◌≡◌, ◌⊎◌, ℕ, ◌≤◌, pos, None, Some}
use Rattle.cap_words.specs.declared.Word.{Word}
use Rattle.cap_words.specs.declared.Word.TheVariants.{Int}
use Rattle.lcm_isa.specs.declared.Reg.{Reg}
use Rattle.lcm_machine.specs.Places.{reg}
use Rattle.lcm_machine.specs.Cells.{cell}
use Rattle.lcm_machine.specs.Run.{plain}
use Rattle.linked_starts.specs.Started.{StartSeen}
use Rattle.overlay_machine.specs.State.{OState, framed}
use Rattle.overlay_machine.specs.Flat.{flat}
use Rattle.overlay_machine.specs.Link.{Link}
use Rattle.run_lines.specs.Layout.{layout}
use Rattle.run_lines.specs.Cuts.{Matched}
use Rattle.template_runs.specs.Public.{IsFreeAt}
use Rattle.source_laws.specs.Secrets.{LetsGo, RanLast}
use Rattle.source_starts.specs.Links.{overlay_link}
use Rattle.source_starts.specs.Sources.{LinkedSources}

-- a word that code outside can reach after so many instructions, where the overlay is in a state: that of a
-- cell that is no trusted part's own and in no frame of an open call
abbrev pub InReach : Link → StartSeen → ℕ → OState → ℕ → Word → Type 0
InReach g s n p a w =
    IsFreeAt g a × (framed p.frames a ≡ None) × (cell (plain n s.state).maps.cells a ≡ Some w)

-- After so many instructions code outside ran last, or the run began in trusted code, and after so many
-- trusted code has let go. Then the registers are those of the overlay, flattened; and each word in reach was
-- in reach after the first ones, at the same address, or is 0 in a stack cell.
pub record PlainShowsNoMore (g : Link) (s : StartSeen) (o q : OState) : Type 0 where
  pub last : OState
  pub ran : RanLast s o last
  pub from : ℕ
  pub to : ℕ
  pub come : Matched s from last
  pub gone : Matched s to q
  pub later : from ≤ to
  pub went : (plain to s.state).end ≡ None
  pub registers : (d : Reg)
      → reg (plain to s.state).maps.regs d ≡ flat (layout s) q.frames (reg q.maps.regs d)
  pub cells : (a : ℕ) (w : Word) → InReach g s to q a w
      → InReach g s from last a w
      ⊎ ((w ≡ Int (pos 0)) × (g.layout.stack.base ≤ a) × (a ≤ g.layout.stack.end))

-- of each point at which linked sources let go of control
abbrev pub PlainRunsLeaveNothing : Type 0
PlainRunsLeaveNothing =
    (a : LinkedSources) (o p q : OState) → LetsGo a.start o p q
    → PlainShowsNoMore (overlay_link a.link) a.start o q
