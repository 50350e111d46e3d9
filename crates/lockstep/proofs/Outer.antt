-- Steps of code outside, of one run.
use Rattle.std.proofs.Common.{◌≡◌, inl, inr, ℕ, ◌+◌, ◌≤◌, pos, ◌+ℤ◌, List, Some, true, false, refl, sym, ap}
use Rattle.std.proofs.Common.{◌∙◌, subst, arith}
use Rattle.std.specs.Prelude.{◌==◌, ◌&&◌, not, is_some}
use Rattle.std.proofs.lemmas.Bool.{cases_lt}
use Rattle.cap_words.specs.declared.Word.{Word}
use Rattle.cap_words.specs.declared.Word.TheVariants.{Mem, Sealed}
use Rattle.cap_words.specs.declared.Sealable.TheVariants.{Mem as MemIn}
use Rattle.cap_words.specs.declared.CapFields.{CapFields}
use Rattle.cap_words.specs.declared.Opened.{Opened}
use Rattle.cap_words.specs.declared.Content.TheVariants.{Mem as MemC}
use Rattle.cap_words.specs.Face.{face_of, opened_of}
use Rattle.cap_words.specs.Faces.{target_of, may_run}
use Rattle.cap_words.specs.Linear.{lin_is}
use Rattle.call_sequence.specs.SequenceRuns.{IsOutsideRange}
use Rattle.lcm_isa.specs.declared.Reg.{Reg}
use Rattle.lcm_isa.specs.declared.Reg.TheVariants.{Pc}
use Rattle.lcm_isa.specs.declared.Instr.{Instr}
use Rattle.lcm_isa.specs.declared.Instr.TheVariants.{Xjmp}
use Rattle.lcm_machine.specs.Maps.{State}
use Rattle.lcm_machine.specs.Places.{reg}
use Rattle.lcm_machine.specs.Runs.{code_cap}
use Rattle.lcm_machine.specs.Table.{target, ask, need}
use Rattle.lcm_machine.specs.Row.{went, faces, opens, cell_faces, fetch, Fetched, some, row, step_of}
use Rattle.lcm_machine.specs.Row.{step_fetched, plan_in}
use Rattle.lcm_machine.specs.Refusals.{HasFailed}
use Rattle.lcm_machine.specs.Closed.{AllAre, OpensTo}
use Rattle.lcm_machine.proofs.Offers.{fetch_normal, after_went, used_target, row_keeps}
use Rattle.call_sequence.specs.Holds.{PcAt}
use Rattle.linked_starts.specs.Parts.{PartSeen}
use Rattle.trusted_border.specs.declared.layout.SiteCode.{SiteCode}
use Rattle.trusted_border.specs.Layout.{site_code}
use Rattle.overlay_machine.specs.Invariant.{PcPart, at_fail, at_row, outside}
use Rattle.overlay_machine.specs.declared.words.OWord.{OWord}
use Rattle.overlay_machine.specs.declared.words.OWord.TheVariants.{Plain}
use Rattle.overlay_machine.specs.declared.cases.Case.TheVariants.{Back, Other}
use Rattle.overlay_machine.specs.Words.{look}
use Rattle.overlay_machine.specs.State.{OpenFrame, OState}
use Rattle.overlay_machine.specs.Step.{case_of, case_fetched, step_by, other_step, overlay_step, with_frames}
use Rattle.overlay_machine.specs.Step.{return_step}
use Rattle.linked_starts.specs.Regions.{in_regions}
use Rattle.linked_starts.proofs.Offers.{in_regions_is}
use Rattle.lcm_machine.specs.Cells.{cell}
use Rattle.overlay_machine.specs.Link.{Link, IsTrusted, ranges_of, regions, data_region}
use Rattle.overlay_machine.specs.Linked.{IsLink}
use Rattle.overlay_machine.specs.Safe.{IsSafeCap, IsOpenSeal, IsSafe}
use Rattle.overlay_machine.proofs.Offers.{mem_of_face, target_bounds, target_reg, mem_safe, open_safe}
use Rattle.overlay_machine.proofs.Offers.{same_region, safe_closed, pc_untrusted, xjmp_crossed, half_seal}
use Rattle.template_runs.specs.Runs.{is_inside}
use Rattle.template_runs.specs.Public.{IsFreeAt}
use Rattle.template_runs.proofs.Offers.{opened_is}
use Rattle.lockstep.specs.Related.{StandsOutside, IsOurs}

pub not_code_fails : (a b : Reg) (next : Word) (s : State OWord) (x y : Opened) (c : CapFields)
    → opens look s a ≡ Some x → opens look s b ≡ Some y → (x.seal == y.seal) ≡ true
    → x.content ≡ MemC c → lin_is c.lin ≡ false → may_run c.perm ≡ false
    → HasFailed (row look Plain (Xjmp a b) next s)
unfolding row plan_in ask need
not_code_fails a b next s x y c ha hb he hc hl hr = rw (ha, hb, he, hc, hl, hr) tt

module _ (g : Link) (linked : IsLink g) where
  pub pc_inside : (p : PartSeen) (k : ℕ) (q : OState) → IsTrusted g p
      → PcAt look (ranges_of p) k q.maps.regs → is_inside g.layout q ≡ true
  unfolding faces
  pc_inside p k q ip h = rw h (linked.owned p (pos (p.component.code_base + k)) ip)

  pub site_inside : (i a : ℕ) (s : SiteCode) (q : OState) → site_code g.layout i ≡ Some s
      → q.maps.regs.pc ≡ Plain (Mem (code_cap s.base s.end a)) → is_inside g.layout q ≡ true
  unfolding faces
  site_inside i a s q e h =
      let k = linked.sites i s e in
      let st = k.3 in
      let h' : q.maps.regs.pc
      ≡ Plain (Mem (code_cap (ranges_of k.0).code_base (ranges_of k.0).code_last a)) =
      h ∙ ap (λ b. Plain (Mem (code_cap b s.end a))) st.base_is
      ∙ ap (λ x. Plain (Mem (code_cap (ranges_of k.0).code_base x a))) st.end_is in
      rw h' (linked.owned k.0 (pos a) k.2)

  -- what a safe word leads to is no trusted part's own
  pub data_target : (fs : List OpenFrame) (c : CapFields) (a : ℕ) (p : PartSeen) → IsSafeCap g fs c
      → c.base ≤ a → a ≤ c.end → IsTrusted g p → (data_region p).base ≤ a → a ≤ (data_region p).end → ⊥
  data_target fs c a p s bl bh ip low high =
      let l = s.low in
      let u = s.high in
      linked.data_closed s.area s.runs p s.usable ip
      (same_region g linked s.area (data_region p) a (linked.usable s.area s.runs s.usable)
      (linked.data_there p ip) (omega (arith, l, bl)) (omega (arith, u, bh)) low high)

  pub safe_free : (fs : List OpenFrame) (w : OWord) (a : ℕ) → IsSafe g fs w
      → target_of (face_of (look w)) ≡ Some a → IsFreeAt g a
  safe_free fs w a h e =
      let b = target_bounds (face_of (look w)) a e in
      let c = mem_safe g fs w b.0 (mem_of_face (look w) b.0 b.1) h in
      (open_safe g linked fs b.0 a c b.2 b.3, λ p ip. by p ip c b.0 refl b.2 b.3)
    where
      by : (p : PartSeen) → IsTrusted g p → {d : CapFields} → IsSafeCap g fs d → (c : CapFields) → d ≡ c
          → d.base ≤ a → a ≤ d.end
          → IsOutsideRange a (ranges_of p).data_base (ranges_of p).data_last
      by p ip {d} s c e bl bh =
          elim (cases_lt a (ranges_of p).data_base)
          as (λ _. IsOutsideRange a (ranges_of p).data_base (ranges_of p).data_last) [
            | inl low ↦ inl low
            | inr l1 ↦ elim (cases_lt (ranges_of p).data_last a)
                as (λ _. IsOutsideRange a (ranges_of p).data_base (ranges_of p).data_last) [
                  | inl high ↦ inr high
                  | inr l2 ↦ absurd (data_target fs d a p s bl bh ip l1 l2)
                ]
          ]

  module _ (o : OState) (h : StandsOutside g o) where
    pub safe : (r : Reg) → IsSafe g o.frames (reg o.maps.regs r)
    safe = by h.holds.pc
      where
        by : PcPart g o.frames o.maps.regs → (r : Reg) → IsSafe g o.frames (reg o.maps.regs r)
        by (at_fail p k ip f pc) =
            absurd (let bad : true ≡ false = sym (pc_inside p k o ip pc) ∙ h.outside in cc)
        by (at_row p k ip at) =
            absurd (let bad : true ≡ false = sym (pc_inside p k o ip at.at_pc) ∙ h.outside in cc)
        by (outside k) = k

    pub case_out : case_of g.layout o.maps ≡ case_fetched o.maps
        (fetch (faces look o.maps Pc) (cell_faces look o.maps))
    unfolding case_of
    case_out = rw (pc_untrusted g linked o.frames o.maps (safe Pc)) refl

    pub pc_free : (a : ℕ) → target_of (faces look o.maps Pc) ≡ Some a → IsFreeAt g a
    unfolding faces
    pc_free a e = safe_free o.frames o.maps.regs.pc a (safe Pc) e

    pub target_free : (n : Instr) (a : ℕ) → target n (faces look o.maps) ≡ Some a → IsFreeAt g a
    unfolding faces
    target_free n a e = let r = target_reg n (faces look o.maps) a e in
        safe_free o.frames (reg o.maps.regs r.0) a (safe r.0) r.1

    -- what a safe word leads to is there
    safe_there : (w : OWord) (a : ℕ) → IsSafe g o.frames w → target_of (face_of (look w)) ≡ Some a
        → is_some (cell o.maps.cells a) ≡ true
    safe_there w a s e =
        let b = target_bounds (face_of (look w)) a e in
        let c = mem_safe g o.frames w b.0 (mem_of_face (look w) b.0 b.1) s in
        let l = c.low in
        let u = c.high in
        let bl = b.2 in
        let bh = b.3 in
        h.holds.there a ∙ ap (λ x. in_regions a (regions g) && not (is_some x)) (c.free a bl bh)
        ∙ ap (λ x. x && true) (in_regions_is a (regions g) c.area (linked.usable c.area c.runs c.usable)
        (omega (arith, l, bl)) (omega (arith, u, bh)))

    pub pc_there : (a : ℕ) → target_of (faces look o.maps Pc) ≡ Some a → is_some (cell o.maps.cells a) ≡ true
    unfolding faces
    pc_there a e = safe_there o.maps.regs.pc a (safe Pc) e

    pub target_there : (n : Instr) (a : ℕ) → target n (faces look o.maps) ≡ Some a
        → is_some (cell o.maps.cells a) ≡ true
    unfolding faces
    target_there n a e = let r = target_reg n (faces look o.maps) a e in
        safe_there (reg o.maps.regs r.0) a (safe r.0) r.1

    -- which step it is
    pub other_is : (f : Fetched) → fetch (faces look o.maps Pc) (cell_faces look o.maps) ≡ f
        → case_fetched o.maps f ≡ Other
        → overlay_step g.layout o ≡ with_frames o.frames o.calls (step_fetched look Plain o.maps f)
    unfolding overlay_step other_step step_of
    other_is f e c =
        ap (λ x. step_by g.layout x o) (case_out ∙ ap (case_fetched o.maps) e ∙ c)
        ∙ ap (λ x. with_frames o.frames o.calls (step_fetched look Plain o.maps x)) e

    pub back_is : (r1 r2 : Reg) (f : Fetched) → fetch (faces look o.maps Pc) (cell_faces look o.maps) ≡ f
        → case_fetched o.maps f ≡ Back r1 r2 → overlay_step g.layout o ≡ return_step g.layout r1 r2 o
    unfolding overlay_step
    back_is r1 r2 f e c = ap (λ x. step_by g.layout x o) (case_out ∙ ap (case_fetched o.maps) e ∙ c)

    opens_none : (n : Instr) → ((r1 r2 : Reg) → n ≡ Xjmp r1 r2 → ⊥)
        → OpensTo look Plain (IsSafe g o.frames) o.maps n
    opens_none (Xjmp r1 r2) f = absurd (f r1 r2 refl)
    opens_none _ f = tt

    pub next_mem : (n : Instr) (next : Word)
        → fetch (faces look o.maps Pc) (cell_faces look o.maps) ≡ some n next
        → (c : CapFields) × (next ≡ Mem c) × IsSafe g o.frames (Plain next)
    unfolding faces
    next_mem n next e =
        let k = fetch_normal (look o.maps.regs.pc) (cell_faces look o.maps) n next e in
        let x = (safe_closed g linked o.frames).moved o.maps.regs.pc k.0 (k.0.addr +ℤ pos 1) k.1 (safe Pc) in
        (record k.0 { addr = k.0.addr +ℤ pos 1 }, k.3, subst (λ w. IsSafe g o.frames (Plain w)) (sym k.3) x)

    pub straight_pc : (n : Instr) (next : Word) (s' : State OWord)
        → fetch (faces look o.maps Pc) (cell_faces look o.maps) ≡ some n next
        → row look Plain n next o.maps ≡ went s' → ((r1 r2 : Reg) → n ≡ Xjmp r1 r2 → ⊥)
        → IsSafe g o.frames s'.regs.pc
    straight_pc n next s' f e never =
        let all : AllAre (IsSafe g o.frames) (IsFreeAt g) o.maps =
        (safe, λ a w free there. h.holds.cells a w free.0 there) in
        let k = after_went (AllAre (IsSafe g o.frames) (IsFreeAt g)) _ s'
        (row_keeps look Plain (IsSafe g o.frames) (IsFreeAt g) (safe_closed g linked o.frames) o.maps all
        next (next_mem n next f).2 n (opens_none n never)
        (λ a u. target_free n a (used_target n (faces look o.maps) (cell_faces look o.maps) a u))) e in
        k.0 Pc

    -- an `xjmp` of a word under a seal of untrusted code
    pub cross_pc : (r1 r2 : Reg) (next w : Word) (s' : State OWord)
        → row look Plain (Xjmp r1 r2) next o.maps ≡ went s' → reg o.maps.regs r1 ≡ Plain w → IsOurs g w
        → IsSafe g o.frames s'.regs.pc
    cross_pc r1 r2 next w s' e is own =
        let x = xjmp_crossed o.maps s' r1 r2 next e in
        let k : w ≡ Sealed x.code.seal (MemIn x.cap) =
        opened_is w x.code x.cap (sym (ap (λ y. opened_of (look y)) is) ∙ x.opens_code) x.memory in
        let op : IsOpenSeal g x.code.seal = subst (IsOurs g) k own in
        let s : IsSafe g o.frames (Plain (Sealed x.code.seal (MemIn x.cap))) =
        subst (IsSafe g o.frames) (is ∙ ap Plain k) (safe r1) in
        subst (IsSafe g o.frames) (sym x.pc) (by x.code.seal x.cap op s)
      where
        by : (n : ℕ) (c : CapFields) → IsOpenSeal g n → IsSafe g o.frames (Plain (Sealed n (MemIn c)))
            → IsSafe g o.frames (Plain (Mem c))
        by n c op (inl k) = k.1
        by n c op (inr k) =
            absurd (linked.closure_closed k.0.part k.1
            (subst (λ y. IsOpenSeal g y) (half_seal g linked o.frames k.0 n (MemIn c) k.3) op))
