-- Contexts of parts, and what is observed of a whole run on either machine.
use Rattle.std.specs.Prelude.{◌≡◌, ℕ, ◌+◌, ◌≤◌, ◌++◌, ℤ, List, None}
use Rattle.cap_words.specs.declared.Word.{Word}
use Rattle.lcm_isa.specs.declared.Reg.TheVariants.{A0}
use Rattle.lcm_machine.specs.declared.FailCause.{FailCause}
use Rattle.lcm_machine.specs.declared.End.TheVariants.{Halted, Failed}
use Rattle.lcm_machine.specs.Places.{reg}
use Rattle.lcm_machine.specs.Run.{plain}
use Rattle.linked_starts.specs.Parts.{PartSeen}
use Rattle.linked_starts.specs.Started.{StartSeen}
use Rattle.linked_starts.specs.LinkedStarts.{IsStartOf}
use Rattle.overlay_machine.specs.State.{OState}
use Rattle.run_lines.specs.Layout.{layout}
use Rattle.run_lines.specs.Views.{flat_view}
use Rattle.run_lines.specs.Cuts.{Matched}
use Rattle.headline.specs.Headline.{OverlayHalts, OverlayFails, PlainEnds}

-- ---- contexts

-- what stands around a list of parts: the parts before them and after them, and the size of the stack
pub record Context : Type 0 where
  pub before : List PartSeen
  pub after : List PartSeen
  pub size : ℕ

-- a context with parts in it
abbrev pub plugged : Context → List PartSeen → List PartSeen
plugged c parts = c.before ++ (parts ++ c.after)

-- with these parts in it, a context links to a start
abbrev pub PlugsTo : Context → List PartSeen → StartSeen → Type 0
PlugsTo c parts s = IsStartOf (plugged c parts) c.size s

-- ---- what is observed

-- of a whole run: that it halts, that it halts with this word in a0, that it fails, or that it has no end
pub data Observation : Type 0 where
  halting : Observation
  halting_with : Word → Observation
  failing : Observation
  running : Observation

-- of the plain run from a start
abbrev pub OnPlain : StartSeen → Observation → Type 0
OnPlain s halting = (n : ℕ) × PlainEnds s n Halted
OnPlain s (halting_with w) = (n : ℕ) × PlainEnds s n Halted × (reg (plain (n + 1) s.state).maps.regs A0 ≡ w)
OnPlain s failing = (n : ℕ) × (cause : FailCause) × (at : ℤ) × PlainEnds s n (Failed cause at)
OnPlain s running = (n : ℕ) → (plain n s.state).end ≡ None

-- of the run of its overlay; the word in a0 is the plain word that the overlay's stands for
abbrev pub OnOverlay : StartSeen → Observation → Type 0
OnOverlay s halting = (n : ℕ) × (p : OState) × Matched s n p × OverlayHalts s p
OnOverlay s (halting_with w) =
    (n : ℕ) × (p : OState) × Matched s n p × OverlayHalts s p × ((flat_view (layout s) p).reg A0 ≡ w)
OnOverlay s failing = (n : ℕ) × (p : OState) × Matched s n p × OverlayFails s p
OnOverlay s running = (n : ℕ) → (j : ℕ) × (p : OState) × (n ≤ j) × Matched s j p
