-- Code outside is confined: what it touches, where it leads, and what stays.
use Rattle.std.proofs.Common.{◌≡◌, ◌⊎◌, inl, inr, ℕ, zero, suc, ◌+◌, ◌≤◌, List, Option, Some, None, refl, sym}
use Rattle.std.proofs.Common.{ap, subst, ◌∙◌, arith}
use Rattle.std.specs.List.{Contains}
use Rattle.cap_words.specs.declared.CapFields.{CapFields}
use Rattle.cap_words.specs.declared.Word.{Word}
use Rattle.cap_words.specs.Faces.{may_write, target_of}
use Rattle.cap_words.specs.Face.{face_of}
use Rattle.lcm_isa.specs.declared.Reg.{Reg}
use Rattle.lcm_isa.specs.declared.Reg.TheVariants.{Pc}
use Rattle.lcm_machine.specs.declared.End.{End}
use Rattle.lcm_machine.specs.declared.Place.TheVariants.{R}
use Rattle.lcm_machine.specs.Maps.{State}
use Rattle.lcm_machine.specs.Places.{reg}
use Rattle.lcm_machine.specs.Cells.{cell}
use Rattle.lcm_machine.specs.Row.{Outcome, went, halted, failed, faces, step_of}
use Rattle.lcm_machine.specs.Run.{moved, next_by, next_state, plain, fresh}
use Rattle.lcm_machine.specs.Touched.{Touches}
use Rattle.lcm_machine.specs.Acts.{May}
use Rattle.lcm_machine.proofs.Offers.{run_one, run_then, touched_by, writes_where_it_may}
use Rattle.linked_starts.specs.Owners.{AreSites}
use Rattle.linked_starts.specs.Parts.{PartSeen}
use Rattle.linked_starts.specs.Started.{StartSeen}
use Rattle.overlay_machine.specs.Words.{look}
use Rattle.overlay_machine.specs.Runs.{plain_run}
use Rattle.overlay_machine.specs.Link.{Link, IsTrusted}
use Rattle.overlay_machine.specs.Safe.{IsSafeCap}
use Rattle.overlay_machine.specs.Keeping.{link_of, HoldsFor}
use Rattle.overlay_machine.specs.Starting.{overlay_at, AgreesFromStart}
use Rattle.overlay_machine.proofs.Offers.{looks, mem_of_face, mem_safe, target_reg}
use Rattle.run_lines.specs.Layout.{layout}
use Rattle.headline.specs.Brackets.{LinesAreBracketed}
use Rattle.headline.specs.Headline.{Headline}
use Rattle.headline.specs.OpenCalls.{after}
use Rattle.authority_report.specs.Bounds.{RunsWithin}
use Rattle.confinement.specs.Confined.{InPart, IsLeftToIt, TouchesNoMore, CodeStays, PartsStay}
use Rattle.confinement.specs.Confined.{CodeOutsideIsConfined}
use Rattle.confinement.proofs.Jumping.{id}
use Rattle.confinement.proofs.Areas.{usable_apart, whose}
use Rattle.confinement.proofs.Told.{held, unopened}
use Rattle.confinement.proofs.Here.{Here, here, after_is, has_gone, next_step}
use Rattle.confinement.proofs.Doors.{doors}
use Rattle.confinement.proofs.Stays.{all_but_code, code_unwritten}

-- ---- an instruction more

-- registers and cells stay where the machine has ended, or ends; and else they are those that it goes to
abbrev Next : StartSeen → ℕ → Type 0
Next s n =
    (after s (n + 1) ≡ after s n)
    ⊎ ((u : State Word) × (v : State Word) × (plain_run n s.state.maps ≡ went u)
    × (plain_run (n + 1) s.state.maps ≡ went v))

next_is : (s : StartSeen) → s.state ≡ fresh s.state.maps → (n : ℕ) → Next s n
unfolding next_state
next_is s is n = by_end (plain n s.state).end refl
  where
    suc_is : after s (n + 1) ≡ (next_by (plain n s.state).end (plain n s.state)).maps
    suc_is = (let z : n + 1 ≡ suc n = omega arith in ap (after s) z)

    by_step : (u : State Word) → plain_run n s.state.maps ≡ went u → (plain n s.state).end ≡ None
        → (r : Outcome Word) → step_of id id (plain n s.state).maps ≡ r → Next s n
    by_step u ran e (went v) q =
        inr (
          u,
          v,
          ran,
          run_then id id n 1 s.state.maps u (went v) ran
              (run_one id id u ∙ ap (step_of id id) (sym (after_is s is n u ran)) ∙ q),
        )
    by_step u ran e halted q =
        inl (suc_is ∙ ap (λ x. (next_by x (plain n s.state)).maps) e
        ∙ ap (λ r. (moved r (plain n s.state)).maps) q)
    by_step u ran e (failed c at) q =
        inl (suc_is ∙ ap (λ x. (next_by x (plain n s.state)).maps) e
        ∙ ap (λ r. (moved r (plain n s.state)).maps) q)

    by_end : (x : Option End) → (plain n s.state).end ≡ x → Next s n
    by_end (Some y) e = inl (suc_is ∙ ap (λ x. (next_by x (plain n s.state)).maps) e)
    by_end None e =
        let u = has_gone s is n e in by_step u.0 u.1 e (step_of id id (plain n s.state).maps) refl

-- ---- the code of trusted parts

pub code_stays : (parts : List PartSeen) (s : StartSeen) → s.state ≡ fresh s.state.maps
    → RunsWithin (all_but_code parts) s.state.maps → CodeStays parts s
code_stays parts s is bound zero a p ip inside = refl
code_stays parts s is bound (suc n) a p ip inside =
    let z : suc n ≡ n + 1 = omega arith in
    ap (λ i. cell (after s i).cells a) z ∙ by_next (next_is s is n)
    (code_stays parts s is bound n a p ip inside)
  where
    by_next : Next s n → cell (after s n).cells a ≡ cell s.state.maps.cells a
        → cell (after s (n + 1)).cells a ≡ cell s.state.maps.cells a
    by_next (inl e) before = ap (λ (t : State Word). cell t.cells a) e ∙ before
    by_next (inr x) before =
        ap (λ (t : State Word). cell t.cells a) (after_is s is (n + 1) x.1 x.3)
        ∙ (bound (n + 1) x.1 x.3 (λ k u seal lt run jumps. refl)).keeps a
        (code_unwritten parts p a ip.0 ip.1 inside)

module _ (parts : List PartSeen) (size : ℕ) (s : StartSeen)
    (h : HoldsFor parts size (overlay_at s) s.state.maps) (is : s.state ≡ fresh s.state.maps)
    (agrees : AgreesFromStart parts size s) (headline : Headline s)
    (brackets : LinesAreBracketed (layout s) (overlay_at s).state)
    (sites : AreSites parts s.sites) (bound : RunsWithin (all_but_code parts) s.state.maps) where
  abbrev g : Link
  g = link_of parts size (overlay_at s)

  abbrev At : ℕ → Type 0
  At n = Here parts size s h is agrees headline brackets n

  -- ---- what it touches

  -- an address in the range of a safe capability
  left : (n a : ℕ) (x : At n) (c : CapFields) → IsSafeCap g x.p.frames c → c.base ≤ a → a ≤ c.end
      → IsLeftToIt parts s n a
  left n a x c safe low high =
      let lo = safe.low in
      let hi = safe.high in
      let low_a : safe.area.base ≤ a = omega (arith, lo, low) in
      let high_a : a ≤ safe.area.end = omega (arith, hi, high) in
      record {
        its = whose g h.linked safe.area safe.runs safe.usable a low_a high_a;
        apart = usable_apart g h.linked safe.area safe.runs safe.usable a low_a high_a;
        unopened = λ r. unopened (layout s) x.p.maps.cells x.p.calls x.p.frames a x.inv.frames
            (safe.free a low high) r.0 (subst (λ cs. Contains cs r.0) x.opened r.1) r.2 r.3;
      }

  by_reg : (n a : ℕ) (x : At n) (r : Reg) → target_of (faces id x.u r) ≡ Some a → IsLeftToIt parts s n a
  by_reg n a x r e =
      let b = held g h.linked x.p x.u x.inv r (x.outside.safe r) a e in left n a x b.0 b.1 b.2 b.3

  touches : TouchesNoMore parts s
  touches n a from t =
      let x = here parts size s h is agrees headline brackets n from in
      let at_u : Touches id x.u a = subst (λ y. Touches id y a) (after_is s is n x.u x.ran) t in
      elim (touched_by id x.u a at_u) as (λ _. IsLeftToIt parts s n a) [
        | inl e ↦ by_reg n a x Pc e
        | inr y ↦ (let r = target_reg y.0 (faces id x.u) a y.3 in by_reg n a x r.0 r.1)
      ]

  -- ---- what stays

  -- no register lets it write to a trusted part
  unwritten : (n a : ℕ) (x : At n) (p : PartSeen) → IsTrusted g p → InPart p a → ¬ (May may_write id x.u a)
  unfolding faces
  unwritten n a x p ip inside (r, (c, shows, may, low, high)) =
      let w = reg x.p.maps.regs r in
      let face = ap face_of (x.inv.flat.regs r)
      ∙ (looks g h.linked x.p x.u x.inv).0 (R r) w refl in
      let safe = mem_safe g x.p.frames w c (mem_of_face (look w) c (sym face ∙ shows)) (x.outside.safe r) in
      let lo = safe.low in
      let hi = safe.high in
      usable_apart g h.linked safe.area safe.runs safe.usable a (omega (arith, lo, low))
      (omega (arith, hi, high)) p ip inside

  parts_stay : PartsStay parts s
  parts_stay n a p from ip inside = by_next (next_is s is n)
    where
      by_next : Next s n → cell (after s (n + 1)).cells a ≡ cell (after s n).cells a
      by_next (inl e) = ap (λ (t : State Word). cell t.cells a) e
      by_next (inr y) =
          let x = here parts size s h is agrees headline brackets n from in
          let step = next_step n s.state.maps x.u y.1 x.ran y.3 in
          ap (λ (t : State Word). cell t.cells a) (after_is s is (n + 1) y.1 y.3)
          ∙ writes_where_it_may id id x.u y.1 a step (unwritten n a x p ip inside)
          ∙ sym (ap (λ (t : State Word). cell t.cells a) (after_is s is n x.u x.ran))

  pub confined : CodeOutsideIsConfined parts s
  confined = record {
    touches = touches;
    enters = doors parts size s h is agrees headline brackets sites;
    code_stays = code_stays parts s is bound;
    parts_stay = parts_stay;
  }
