-- The flow rules' facts about one step, at a trusted part of linked parts.
use Rattle.std.proofs.Common.{◌≡◌, ◌≢◌, ◌⊎◌, ℕ, ◌≤◌, false, List, Some, refl, ap}
use Rattle.cap_words.specs.declared.Word.{Word}
use Rattle.cap_words.specs.declared.Word.TheVariants.{Int}
use Rattle.lcm_isa.specs.declared.Reg.{Reg}
use Rattle.lcm_isa.specs.declared.Reg.TheVariants.{Pc, Dat}
use Rattle.lcm_isa.specs.declared.Instr.{Instr}
use Rattle.lcm_isa.specs.declared.Instr.TheVariants.{Xjmp}
use Rattle.lcm_machine.specs.Maps.{State}
use Rattle.lcm_machine.specs.Places.{reg}
use Rattle.lcm_machine.specs.Cells.{cell}
use Rattle.lcm_machine.specs.Table.{is_pc, target}
use Rattle.lcm_machine.specs.Row.{faces, cell_faces, fetch, some, look_face, step_of, went}
use Rattle.call_sequence.specs.Holds.{SameOthers}
use Rattle.call_sequence.specs.Places.{begins_entry, begins_site}
use Rattle.call_sequence.proofs.Offers as steps
use Rattle.linked_starts.specs.Parts.{PartSeen}
use Rattle.overlay_machine.specs.declared.words.OWord.{OWord}
use Rattle.overlay_machine.specs.declared.words.OWord.TheVariants.{Plain}
use Rattle.overlay_machine.specs.Words.{look}
use Rattle.overlay_machine.specs.State.{OpenFrame}
use Rattle.overlay_machine.specs.Link.{Link, IsTrusted, ranges_of, IsOpenAt, IsStackCell, CodeIn}
use Rattle.overlay_machine.specs.Linked.{IsLink}
use Rattle.overlay_machine.specs.Safe.{IsSafe}
use Rattle.overlay_machine.specs.Invariant.{StandsAt}
use Rattle.overlay_machine.proofs.invariant.Facts.{safe_int, safe_stk, open_data, open_stack, closed}
use Rattle.overlay_machine.proofs.invariant.Facts.{length_is}

module _ (g : Link) (linked : IsLink g) (fs : List OpenFrame) (s : State OWord) (p : PartSeen)
    (ip : IsTrusted g p) (code : CodeIn p s.cells)
    (cells : (a : ℕ) (w : OWord) → IsOpenAt g a → cell s.cells a ≡ Some w → IsSafe g fs w) where
  abbrev pub Stood : State OWord → ℕ → Type 0
  Stood x o =
      steps.StandsAt look Plain (λ y. refl) (IsSafe g fs) (IsStackCell g fs) (IsOpenAt g) (ranges_of p)
      (safe_int g fs) (safe_stk g linked fs p ip) (open_data g linked p ip) (open_stack g linked fs)
      p.component (length_is g linked p ip) (closed g linked p ip)
      (linked.parts p ip.0).limits ((linked.parts p ip.0).flow ip.1) x o

  abbrev pub Rest : State OWord → Type 0
  Rest x = steps.Kept_rest look Plain (λ y. refl) (IsSafe g fs) (IsStackCell g fs) (IsOpenAt g) (ranges_of p)
      (safe_int g fs) (safe_stk g linked fs p ip) (open_data g linked p ip) (open_stack g linked fs)
      p.component (length_is g linked p ip) (closed g linked p ip)
      (linked.parts p ip.0).limits ((linked.parts p ip.0).flow ip.1) x

  abbrev pub Led : State OWord → Type 0
  Led x = steps.Next look Plain (λ y. refl) (IsSafe g fs) (IsStackCell g fs) (IsOpenAt g) (ranges_of p)
      (safe_int g fs) (safe_stk g linked fs p ip) (open_data g linked p ip) (open_stack g linked fs)
      p.component (length_is g linked p ip) (closed g linked p ip)
      (linked.parts p ip.0).limits ((linked.parts p ip.0).flow ip.1) s x

  stood : (o : ℕ) → StandsAt g fs p o s.regs → Stood s o
  stood o at = record { there = at.there; inside = at.inside; at_pc = at.at_pc; row = at.row; fits = at.fits }

  rest : Rest s
  rest = record { linked = λ o z e. ap (look_face look) (code o (Int z) e); safe_cells = cells }

  pub glue_step : (s' : State OWord) (o : ℕ) → StandsAt g fs p o s.regs → begins_entry p.component o ≡ false
      → begins_site p.component o ≡ false → step_of look Plain s ≡ went s' → Led s' × Rest s'
      × SameOthers (IsOpenAt g) s.cells s'.cells
  glue_step s' o at ne ns e =
      steps.step_kept look Plain (λ y. refl) (IsSafe g fs) (IsStackCell g fs) (IsOpenAt g) (ranges_of p)
      (safe_int g fs) (safe_stk g linked fs p ip) (open_data g linked p ip) (open_stack g linked fs)
      p.component (length_is g linked p ip) (closed g linked p ip)
      (linked.parts p ip.0).limits ((linked.parts p ip.0).flow ip.1) s s' o (stood o at) rest ne ns e

  pub glue_shows : (o : ℕ) → StandsAt g fs p o s.regs → begins_entry p.component o ≡ false
      → begins_site p.component o ≡ false → (r1 r2 : Reg) (next : Word)
      → fetch (faces look s Pc) (cell_faces look s) ≡ some (Xjmp r1 r2) next
      → ((d : Reg) → is_pc d ≡ false → d ≢ Dat → IsSafe g fs (reg s.regs d)) × IsSafe g fs (reg s.regs r1)
      × IsSafe g fs (reg s.regs r2)
  glue_shows o at ne ns r1 r2 next e =
      steps.shows_at_xjmp look Plain (λ y. refl) (IsSafe g fs) (IsStackCell g fs) (IsOpenAt g) (ranges_of p)
      (safe_int g fs) (safe_stk g linked fs p ip) (open_data g linked p ip) (open_stack g linked fs)
      p.component (length_is g linked p ip) (closed g linked p ip)
      (linked.parts p ip.0).limits ((linked.parts p ip.0).flow ip.1) s o (stood o at)
      rest ne ns r1 r2 next e

  pub glue_area : (o : ℕ) → StandsAt g fs p o s.regs → begins_entry p.component o ≡ false
      → begins_site p.component o ≡ false → (n : Instr) (next : Word) (a : ℕ)
      → fetch (faces look s Pc) (cell_faces look s) ≡ some n next
      → target n (faces look s) ≡ Some a → (((ranges_of p).data_base ≤ a) × (a ≤ (ranges_of p).data_last))
      ⊎ IsStackCell g fs a
  glue_area o at ne ns n next a e m =
      steps.goes_to_area look Plain (λ y. refl) (IsSafe g fs) (IsStackCell g fs) (IsOpenAt g) (ranges_of p)
      (safe_int g fs) (safe_stk g linked fs p ip) (open_data g linked p ip) (open_stack g linked fs)
      p.component (length_is g linked p ip) (closed g linked p ip)
      (linked.parts p ip.0).limits ((linked.parts p ip.0).flow ip.1) s o (stood o at)
      rest ne ns n next a e m
