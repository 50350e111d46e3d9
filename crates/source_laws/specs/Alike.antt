-- Two runs, of sources that may differ: what code outside sees where they let go is the same, if they go by
-- the same pair, with the same words that their lines tell, and if the same cells were wiped.
use Rattle.std.specs.Prelude.{◌≡◌, ℕ, ◌↔◌, Some, None}
use Rattle.lcm_isa.specs.declared.Reg.{Reg}
use Rattle.lcm_isa.specs.declared.Reg.TheVariants.{A0, A1, A2, A3}
use Rattle.lcm_machine.specs.Places.{reg}
use Rattle.lcm_machine.specs.Cells.{cell}
use Rattle.overlay_machine.specs.State.{OpenFrame, OState}
use Rattle.overlay_machine.specs.Link.{Link}
use Rattle.template_runs.specs.Public.{IsFreeAt}
use Rattle.template_runs.specs.Border.{zero, Opened, ShowsCall, ShowsLeave, IsTidied}

-- the same words in all registers, and in each cell that is no trusted part's own
pub record SeenAlike (g : Link) (q r : OState) : Type 0 where
  pub regs : (d : Reg) → reg q.maps.regs d ≡ reg r.maps.regs d
  pub cells : (a : ℕ) → IsFreeAt g a → cell q.maps.cells a ≡ cell r.maps.cells a

-- Two links whose trusted parts keep the same addresses for themselves; and the states of each of the two
-- runs at which trusted code was come to and at which it lets go. What is seen at the first ones is alike,
-- each run leaves the cells tidied, and they wipe the same ones, and take the same ones away.
pub record BothTidied (g h : Link) (o q o' q' : OState) : Type 0 where
  pub same_free : (a : ℕ) → IsFreeAt g a ↔ IsFreeAt h a
  pub before : (a : ℕ) → IsFreeAt g a → cell o.maps.cells a ≡ cell o'.maps.cells a
  pub tidied : IsTidied g o q
  pub tidied_too : IsTidied h o' q'
  pub same_wiped : (a : ℕ) → IsFreeAt g a
      → (cell q.maps.cells a ≡ Some zero) ↔ (cell q'.maps.cells a ≡ Some zero)
  pub same_gone : (a : ℕ) → IsFreeAt g a → (cell q.maps.cells a ≡ None) ↔ (cell q'.maps.cells a ≡ None)

-- the same arguments
pub record SameArgs (q r : OState) : Type 0 where
  pub a0 : reg q.maps.regs A0 ≡ reg r.maps.regs A0
  pub a1 : reg q.maps.regs A1 ≡ reg r.maps.regs A1
  pub a2 : reg q.maps.regs A2 ≡ reg r.maps.regs A2
  pub a3 : reg q.maps.regs A3 ≡ reg r.maps.regs A3

-- calls by the same pair, of frames with one base, site and number
abbrev pub CallsSeenAlike : Type 0
CallsSeenAlike =
    (g h : Link) (d : Opened) (f e : OpenFrame) (o q o' q' : OState) → ShowsCall g.layout d f q
    → ShowsCall h.layout d e q' → g.layout.stack.base ≡ h.layout.stack.base → f.base ≡ e.base
    → f.site ≡ e.site → f.call ≡ e.call → SameArgs q q' → BothTidied g h o q o' q' → SeenAlike g q q'

-- ends of procedures that leave by the same pair, with the same stack and the same value
abbrev pub LeavesSeenAlike : Type 0
LeavesSeenAlike =
    (g h : Link) (d : Opened) (top : ℕ) (o q o' q' : OState) → ShowsLeave g.layout d top q
    → ShowsLeave h.layout d top q' → g.layout.stack.base ≡ h.layout.stack.base
    → reg q.maps.regs A0 ≡ reg q'.maps.regs A0 → BothTidied g h o q o' q' → SeenAlike g q q'
