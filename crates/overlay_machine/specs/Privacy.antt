-- The frame of an open call is private.
use Rattle.std.specs.Prelude.{◌≡◌, ℕ, ◌+◌, ◌≤◌, Some}
use Rattle.cap_words.specs.declared.Word.{Word}
use Rattle.lcm_isa.specs.declared.Reg.{Reg}
use Rattle.lcm_machine.specs.Maps.{State}
use Rattle.lcm_machine.specs.Touched.{Untouched}
use Rattle.overlay_machine.specs.declared.cases.Case.TheVariants.{Back}
use Rattle.overlay_machine.specs.State.{OpenFrame, OState, frame_of}
use Rattle.overlay_machine.specs.Step.{case_of}
use Rattle.overlay_machine.specs.Link.{Link}
use Rattle.overlay_machine.specs.Linked.{IsLink}
use Rattle.overlay_machine.specs.Invariant.{Invariant}
use Rattle.overlay_machine.specs.Runs.{Reached}

-- none of so many instructions of the plain machine touches an address of the frame
abbrev pub IsLeftAlone : OpenFrame → ℕ → State Word → Type 0
IsLeftAlone f n t = (a : ℕ) → f.base ≤ a → a ≤ f.end → Untouched (λ w. w) (λ w. w) a n t

-- call number k is open with this frame
abbrev pub IsOpen : OState → ℕ → OpenFrame → Type 0
IsOpen o k f = frame_of o.frames k ≡ Some f

-- from a state at which a call is open, up to each matched point at which it is open still, no plain
-- instruction touches its frame; and where an `xjmp` of a return word comes next, neither does that
pub record FramesArePrivate (g : Link) (o : OState) (t : State Word) : Type 0 where
  pub while_open : (k : ℕ) (f : OpenFrame) → IsOpen o k f → (j : ℕ) (p : OState) → Reached g.layout o j p
      → IsOpen p k f → IsLeftAlone f j t
  pub up_to_return : (k : ℕ) (f : OpenFrame) → IsOpen o k f → (j : ℕ) (p : OState) → Reached g.layout o j p
      → IsOpen p k f → (r1 r2 : Reg) → case_of g.layout p.maps ≡ Back r1 r2 → IsLeftAlone f (j + 1) t

abbrev pub AllFramesArePrivate : Type 0
AllFramesArePrivate =
    (g : Link) (o : OState) (t : State Word) → IsLink g → Invariant g o t → FramesArePrivate g o t
