-- Every other step is one plain step.
use Rattle.std.proofs.Common.{◌≡◌, ℕ, true, Some, None, refl, inl, inr}
use Rattle.std.specs.Prelude.{Option, ◌&&◌}
use Rattle.std.proofs.lemmas.Bool.{and_parts, cases_Bool}
use Rattle.cap_words.specs.declared.Word.{Word}
use Rattle.cap_words.specs.Faces.{target_of}
use Rattle.lcm_isa.specs.declared.Reg.{Reg}
use Rattle.lcm_isa.specs.declared.Reg.TheVariants.{Pc}
use Rattle.lcm_isa.specs.declared.Instr.{Instr}
use Rattle.lcm_isa.specs.declared.Instr.TheVariants.{Xjmp}
use Rattle.lcm_machine.specs.Maps.{State}
use Rattle.lcm_machine.specs.Places.{reg}
use Rattle.lcm_machine.specs.Row.{faces, cell_faces, fetch, some}
use Rattle.lcm_machine.specs.Runs.{run_of}
use Rattle.lcm_machine.specs.Mapped.{IsFree, SameContents}
use Rattle.lcm_machine.proofs.Offers.{step_mapped, run_one}
use Rattle.trusted_border.specs.declared.layout.Layout.{Layout}
use Rattle.trusted_border.specs.Layout.{trusted_at, site_at, has_entry_at}
use Rattle.overlay_machine.specs.declared.words.OWord.{OWord}
use Rattle.overlay_machine.specs.declared.words.OWord.TheVariants.{Plain}
use Rattle.overlay_machine.specs.declared.cases.Case.{Case}
use Rattle.overlay_machine.specs.declared.cases.Case.TheVariants.{Call, Entry, Back, Other}
use Rattle.overlay_machine.specs.Words.{look, is_plain}
use Rattle.overlay_machine.specs.State.{OState}
use Rattle.overlay_machine.specs.Step.{case_at, case_trusted, case_fetched, case_of, other_step}
use Rattle.overlay_machine.specs.Flat.{flat, beside, IsFlat}
use Rattle.overlay_machine.specs.Agree.{EndsAgree, Looks, FramesFree}
use Rattle.overlay_machine.proofs.FlatLemmas.{flat-plain, flat-opened, row_agrees, beside-none}

-- a case that is read off the instruction at pc
abbrev pub IsFetched : Case → Type 0
IsFetched (Call i) = ⊥
IsFetched (Entry a) = ⊥
IsFetched (Back r1 r2) = Unit {0}
IsFetched Other = Unit {0}

-- a step that is fetched stands at no sequence
case_at-fetched : (l : Layout) (a : ℕ) (n : Option ℕ) (c d : Case) → IsFetched d → case_at l a n c ≡ d → c ≡ d
case_at-fetched l a (Some i) c (Call j) f e = absurd f
case_at-fetched l a (Some i) c (Entry b) f e = absurd f
case_at-fetched l a (Some i) c (Back r1 r2) f e = cc
case_at-fetched l a (Some i) c Other f e = cc
case_at-fetched l a None c d f e = elim (cases_Bool (has_entry_at l a)) as (λ _. c ≡ d) [
  | inl t ↦ absurd (no_entry d f (rw t at e))
  | inr t ↦ rw t at e
]
  where
    no_entry : (d : Case) → IsFetched d → Entry a ≡ d → ⊥
    no_entry (Call i) f e = absurd f
    no_entry (Entry b) f e = absurd f
    no_entry (Back r1 r2) f e = cc
    no_entry Other f e = cc

case_trusted-fetched : (l : Layout) (p : Option ℕ) (c d : Case) → IsFetched d → case_trusted l p c ≡ d → c ≡ d
case_trusted-fetched l None c d f e = e
case_trusted-fetched l (Some a) c d f e = case_at-fetched l a (site_at l a) c d f e

pub fetched_case : (l : Layout) (s : State OWord) (d : Case) → IsFetched d → case_of l s ≡ d
    → case_fetched s (fetch (faces look s Pc) (cell_faces look s)) ≡ d
unfolding case_of
fetched_case l s d f e = case_trusted-fetched l (trusted_at l (faces look s Pc)) _ d f e

pub plain_both : (s : State OWord) (r1 r2 : Reg) (next : Word)
    → case_fetched s (some (Xjmp r1 r2) next) ≡ Other
    → (is_plain (reg s.regs r1) ≡ true) × (is_plain (reg s.regs r2) ≡ true)
plain_both s r1 r2 next e =
    elim (cases_Bool (is_plain (reg s.regs r1) && is_plain (reg s.regs r2)))
    as (λ _. (is_plain (reg s.regs r1) ≡ true) × (is_plain (reg s.regs r2) ≡ true)) [
      | inl t ↦ and_parts _ _ t
      | inr t ↦ (let k : Back r1 r2 ≡ Other = rw t at e in cc)
    ]

module _ (l : Layout) (o : OState) (t : State Word) (m : IsFlat l o t) (k : Looks l o) (free : FramesFree o)
  where
    pub free_pc : IsFree (beside l o.frames) (target_of (faces look o.maps Pc))
    free_pc a e = beside-none l o.frames a (free.at_pc a e)

    contents : (i : Instr) (next : Word) → case_fetched o.maps (some i next) ≡ Other
        → SameContents look (λ w. w) (flat l o.frames) o.maps i
    contents (Xjmp r1 r2) next e = let p =
        plain_both o.maps r1 r2 next e in
        (flat-opened l o.frames (reg o.maps.regs r1) p.0, flat-opened l o.frames (reg o.maps.regs r2) p.1)
    contents _ next e = tt

    pub other_agrees : case_of l o.maps ≡ Other → EndsAgree l (other_step o) (run_of (λ w. w) (λ w. w) 1 t)
    unfolding other_step
    other_agrees e =
        let c = fetched_case l o.maps Other tt e in
        let ends = step_mapped look (λ w. w) (flat l o.frames) (beside l o.frames) Plain (λ w. w) (λ x. refl)
        (λ x. refl) (flat-plain l o.frames) o.maps t m (k.0) free_pc
        (λ i next f.
        (contents i next (rw f at c), λ a g. beside-none l o.frames a (free.at_target i next a f g))) in
        rw (run_one (λ w. w) (λ w. w) t) (row_agrees l o.frames o.calls (k.1) _ _ ends)
