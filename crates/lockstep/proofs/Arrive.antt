-- Where trusted code lets go with the same observed, the states are alike to code outside again.
use Rattle.std.proofs.Common.{◌≡◌, inl, inr, ℕ, ◌-◌, pos, ◌∷◌, Option, Some, None, Bool, true, false, refl}
use Rattle.std.proofs.Common.{sym, ap, ◌∙◌, subst, arith}
use Rattle.std.specs.Prelude.{is_some, if◌then◌else◌}
use Rattle.std.specs.List.{Contains}
use Rattle.cap_words.specs.declared.Word.{Word}
use Rattle.cap_words.specs.declared.Word.TheVariants.{Int, Mem, Sealed}
use Rattle.cap_words.specs.declared.Sealable.{Sealable}
use Rattle.cap_words.specs.declared.Sealable.TheVariants.{Mem as MemIn, Seal as SealIn}
use Rattle.cap_words.specs.declared.CapFields.{CapFields}
use Rattle.cap_words.specs.Linear.{is_linear, left_of}
use Rattle.call_sequence.specs.SequenceRuns.{stack_cap}
use Rattle.linked_starts.specs.Start.{Exported, code_of, data_of}
use Rattle.lcm_isa.specs.declared.Reg.{Reg}
use Rattle.lcm_isa.specs.declared.Reg.TheVariants.{Pc, Rcode, Rdata, Stk, Dat, T1, T2, C1, C2, A0, A1, A2, A3}
use Rattle.lcm_isa.specs.declared.Reg.TheVariants.{G0, G1, G2}
use Rattle.lcm_machine.specs.Places.{reg}
use Rattle.lcm_machine.specs.Cells.{cell}
use Rattle.lcm_machine.specs.Table.{unsealed}
use Rattle.overlay_machine.specs.declared.words.OWord.{OWord}
use Rattle.overlay_machine.specs.declared.words.OWord.TheVariants.{Plain}
use Rattle.overlay_machine.specs.Words.{look}
use Rattle.overlay_machine.specs.State.{OpenFrame, OState}
use Rattle.overlay_machine.specs.Link.{Link, IsTrusted, ranges_of, regions}
use Rattle.linked_starts.specs.Regions.{in_regions}
use Rattle.overlay_machine.specs.Invariant.{Invariant}
use Rattle.lcm_machine.specs.Maps.{State}
use Rattle.std.proofs.lemmas.Bool.{and_parts}
use Rattle.overlay_machine.specs.Linked.{IsLink}
use Rattle.overlay_machine.specs.Safe.{IsSafeCap, IsOpenSeal, IsSafe, IsHalf}
use Rattle.overlay_machine.proofs.Offers.{not_trusted}
use Rattle.template_runs.specs.Public.{IsFreeAt}
use Rattle.template_runs.specs.Border.{zero, Opened, code_word, half_word, content_of, ShowsCall, ShowsLeave}
use Rattle.template_runs.specs.Border.{IsTidied}
use Rattle.lockstep.specs.Related.{StandsOutside, SameNames, Calls, IsOurs, SameWord, ours, code_halves}
use Rattle.lockstep.specs.Related.{data_halves, ret_codes, ret_datas, CellPair, Newest, Alike}
use Rattle.lockstep.specs.Lockstep.{Round, SameCrossing, by_call, by_leave, SameWiped}
use Rattle.lockstep.proofs.Outer.{safe, data_target}

-- ---- a pair that was opened is under a seal of untrusted code

module _ (g : Link) (linked : IsLink g) (q : OState) (h : StandsOutside g q) (d : Opened)
    (pc : q.maps.regs.pc ≡ Plain (Mem d.code)) where
  pc_cap : IsSafeCap g q.frames d.code
  pc_cap = subst (IsSafe g q.frames) pc (safe g linked q h Pc)

  cap_is : (n m : ℕ) (c e : CapFields) → Sealed n (MemIn c) ≡ Sealed m (MemIn e) → c ≡ e
  cap_is n m c e k = cc

  not_half : (x : Exported) → IsTrusted g x.part → IsHalf x (Sealed d.seal (MemIn d.code)) → ⊥
  not_half x ip (inl e) =
      let k : d.code ≡ code_of x = cap_is _ _ _ _ e in
      not_trusted g linked q.frames x.part d.code ip pc_cap (ap (λ c. c.base) k) (ap (λ c. c.end) k)
  not_half x ip (inr e) =
      let k : d.code ≡ data_of x.part = cap_is _ _ _ _ e in
      let b : d.code.base ≡ (ranges_of x.part).data_base = ap (λ c. c.base) k in
      let t : d.code.end ≡ (ranges_of x.part).data_last = ap (λ c. c.end) k in
      let o = pc_cap.order in
      data_target g linked q.frames d.code d.code.base x.part pc_cap (omega arith) o ip
      (omega (arith, b)) (omega (arith, t, o))

  pub opened_open : (r : Reg) → reg q.maps.regs r ≡ code_word d → IsOpenSeal g d.seal
  opened_open r e = by (subst (IsSafe g q.frames) e (safe g linked q h r))
    where
      by : IsSafe g q.frames (Plain (Sealed d.seal (MemIn d.code))) → IsOpenSeal g d.seal
      by (inl k) = k.0
      by (inr k) = absurd (not_half k.0 k.1 k.3)

-- a cell that is there is of a region
pub in_region_of : (g : Link) (q : OState) (t : State Word) → Invariant g q t → (c : ℕ) (w : OWord)
    → cell q.maps.cells c ≡ Some w → in_regions c (regions g) ≡ true
in_region_of g q t h c w e = (and_parts _ _ (sym (h.there c) ∙ ap is_some e)).0

module _ (g h : Link) (names : SameNames g h) where
  unsealed_ours : (c : Sealable) → IsOurs g (unsealed (content_of c))
  unsealed_ours (MemIn c) = tt
  unsealed_ours (SealIn s) = tt

  pub more : (k m : ℕ) (cs : Calls) (w v : OWord) → SameWord g h names cs w v
      → SameWord g h names ((k, m) ∷ cs) w v
  more k m cs _ _ (ours w o) = ours w o
  more k m cs _ _ (code_halves x y t) = code_halves x y t
  more k m cs _ _ (data_halves x y t) = data_halves x y t
  more k m cs _ _ (ret_codes i j s) = ret_codes i j s
  more k m cs _ _ (ret_datas i j c) = ret_datas i j (inr c)

  at_words : (cs : Calls) {w v x y : OWord} → w ≡ x → v ≡ y → SameWord g h names cs x y
      → SameWord g h names cs w v
  at_words cs e f k = rw (e, f) k

  same_zero : (cs : Calls) {w v : OWord} → w ≡ zero → v ≡ zero → SameWord g h names cs w v
  same_zero cs e f = at_words cs e f (ours (Int (pos 0)) tt)

  -- ---- cells

  module _ (cs ds : Calls) (a b : Round)
      (al : (c : ℕ) → IsFreeAt g c
      → CellPair (SameWord g h names cs) (IsFreeAt g) (cell a.before.maps.cells c)
      (cell b.before.maps.cells c)) (ta : IsTidied g a.before a.after) (tb : IsTidied h b.before b.after)
      (oa : StandsOutside g a.after) (ob : StandsOutside h b.after)
      (w : SameWiped g a b) (up : (x y : OWord) → SameWord g h names cs x y → SameWord g h names ds x y) where
    S : OWord → OWord → Type 0
    S = SameWord g h names ds

    paired : (c : ℕ) → IsFreeAt g c → (o o' : Option OWord) → cell a.before.maps.cells c ≡ o
        → cell b.before.maps.cells c ≡ o' → (x y : OWord) → o ≡ Some x → o' ≡ Some y
        → CellPair (SameWord g h names cs) (IsFreeAt g) o o' → SameWord g h names ds x y
    paired c free None o' e e' x y i j k = cc
    paired c free (Some u) None e e' x y i j k = cc
    paired c free (Some u) (Some v) e e' x y i j k =
        let p : u ≡ x = cc in let r : v ≡ y = cc in
        subst (λ z. SameWord g h names ds x z) r (subst (λ z. SameWord g h names ds z v) p (up u v k))

    both : (c : ℕ) → IsFreeAt g c → (x y : OWord) → cell a.after.maps.cells c ≡ Some x
        → cell b.after.maps.cells c ≡ Some y → SameWord g h names ds x y
    both c free x y ex ey = elim (ta c x free ex) as (λ _. SameWord g h names ds x y) [
      | inr z ↦ (
          let there = (w c free (ap is_some ex) (ap is_some ey)).0 (ex ∙ ap Some z.0) in
          let e : Some y ≡ Some zero = sym ey ∙ there in
          let k : y ≡ zero = cc in same_zero ds z.0 k)
      | inl s ↦
          elim (tb c y
          (names.free c (in_region_of g a.after oa.plain oa.holds c x ex)
          (in_region_of h b.after ob.plain ob.holds c y ey) free) ey) as (λ _. SameWord g h names ds x y) [
            | inr z ↦ (
                let there = (w c free (ap is_some ex) (ap is_some ey)).1 (ey ∙ ap Some z.0) in
                let e : Some x ≡ Some zero = sym ex ∙ there in
                let k : x ≡ zero = cc in same_zero ds k z.0)
            | inl t ↦ paired c free _ _ refl refl x y s t (al c free)
          ]
    ]

    pub cells_alike : (c : ℕ) → IsFreeAt g c
        → CellPair (SameWord g h names ds) (IsFreeAt g) (cell a.after.maps.cells c)
        (cell b.after.maps.cells c)
    cells_alike c free = by _ _ refl refl
      where
        by : (o o' : Option OWord) → cell a.after.maps.cells c ≡ o → cell b.after.maps.cells c ≡ o'
            → CellPair (SameWord g h names ds) (IsFreeAt g) o o'
        by None o' e e' = tt
        by (Some x) None e e' = tt
        by (Some x) (Some y) e e' = both c free x y e e'

  -- ---- both

  module _ (lg : IsLink g) (lh : IsLink h) (cs : Calls) (a b : Round) (oa : StandsOutside g a.after)
      (ob : StandsOutside h b.after)
      (al : (c : ℕ) → IsFreeAt g c
      → CellPair (SameWord g h names cs) (IsFreeAt g) (cell a.before.maps.cells c)
      (cell b.before.maps.cells c)) (ta : IsTidied g a.before a.after)
      (tb : IsTidied h b.before b.after) (w : SameWiped g a b) where
    call_alike : (d : Opened) (f e : OpenFrame) → ShowsCall g.layout d f a.after
        → ShowsCall h.layout d e b.after → f.base ≡ e.base → Contains names.sites (f.site, e.site)
        → SameWord g h names cs (reg a.after.maps.regs A0) (reg b.after.maps.regs A0)
        → SameWord g h names cs (reg a.after.maps.regs A1) (reg b.after.maps.regs A1)
        → SameWord g h names cs (reg a.after.maps.regs A2) (reg b.after.maps.regs A2)
        → SameWord g h names cs (reg a.after.maps.regs A3) (reg b.after.maps.regs A3)
        → Alike g h names ((f.call, e.call) ∷ cs) a.after b.after
    call_alike d f e s t base sites a0 a1 a2 a3 = record {
      seen = (regs, cells_alike cs ds a b al ta tb oa ob w (more f.call e.call cs));
      newest = rw (s.newest, t.newest) (inl (refl, refl), sites, base);
    }
      where
        ds : Calls
        ds = (f.call, e.call) ∷ cs

        op : IsOpenSeal g d.seal
        op = opened_open g lg a.after oa d s.pc C1 s.c1

        stk_is : b.after.maps.regs.stk ≡ Plain (Mem (stack_cap g.layout.stack.base (f.base - 1) (f.base - 1)))
        stk_is = t.stk
            ∙ sym (ap (λ z. Plain (Mem (stack_cap h.layout.stack.base (z - 1) (z - 1)))) base)
            ∙ sym (ap (λ z. Plain (Mem (stack_cap z (f.base - 1) (f.base - 1)))) names.stack)

        regs : (r : Reg) → SameWord g h names ds (reg a.after.maps.regs r) (reg b.after.maps.regs r)
        regs Pc = at_words ds s.pc t.pc (ours (Mem d.code) tt)
        regs Dat = at_words ds s.dat t.dat (ours (unsealed (content_of d.half)) (unsealed_ours d.half))
        regs C1 = at_words ds s.c1 t.c1 (ours (Sealed d.seal (MemIn d.code)) op)
        regs C2 = at_words ds s.c2 t.c2 (ours (Sealed d.seal d.half) op)
        regs Rcode = at_words ds s.rcode t.rcode (ret_codes f.site e.site sites)
        regs Rdata = at_words ds s.rdata t.rdata (ret_datas f.call e.call (inl (refl, refl)))
        regs Stk = at_words ds s.stk stk_is
            (ours (Mem (stack_cap g.layout.stack.base (f.base - 1) (f.base - 1))) tt)
        regs T1 = same_zero ds s.t1 t.t1
        regs T2 = same_zero ds s.t2 t.t2
        regs G0 = same_zero ds s.g0 t.g0
        regs G1 = same_zero ds s.g1 t.g1
        regs G2 = same_zero ds s.g2 t.g2
        regs A0 = more f.call e.call cs _ _ a0
        regs A1 = more f.call e.call cs _ _ a1
        regs A2 = more f.call e.call cs _ _ a2
        regs A3 = more f.call e.call cs _ _ a3

    left_same : (x : OWord) → SameWord g h names cs x x
        → SameWord g h names cs (left_of look Plain x) (left_of look Plain x)
    left_same x k = by (is_linear (look x))
      where
        by : (c : Bool) → SameWord g h names cs (if c then zero else x) (if c then zero else x)
        by true = ours (Int (pos 0)) tt
        by false = k

    leave_alike : (d : Opened) (top : ℕ) → ShowsLeave g.layout d top a.after
        → ShowsLeave h.layout d top b.after
        → SameWord g h names cs (reg a.after.maps.regs A0) (reg b.after.maps.regs A0)
        → Newest g h names cs a.after.frames b.after.frames → Alike g h names cs a.after b.after
    leave_alike d top s t a0 newest = record {
      seen = (regs, cells_alike cs cs a b al ta tb oa ob w (λ x y k. k));
      newest = newest;
    }
      where
        op : IsOpenSeal g d.seal
        op = opened_open g lg a.after oa d s.pc Rcode s.rcode

        stk_is : b.after.maps.regs.stk ≡ Plain (Mem (stack_cap g.layout.stack.base top top))
        stk_is = t.stk ∙ sym (ap (λ z. Plain (Mem (stack_cap z top top))) names.stack)

        regs : (r : Reg) → SameWord g h names cs (reg a.after.maps.regs r) (reg b.after.maps.regs r)
        regs Pc = at_words cs s.pc t.pc (ours (Mem d.code) tt)
        regs Dat = at_words cs s.dat t.dat (ours (unsealed (content_of d.half)) (unsealed_ours d.half))
        regs Rcode = at_words cs s.rcode t.rcode (ours (Sealed d.seal (MemIn d.code)) op)
        regs Rdata = at_words cs s.rdata t.rdata (left_same (half_word d) (ours (Sealed d.seal d.half) op))
        regs Stk = at_words cs s.stk stk_is (ours (Mem (stack_cap g.layout.stack.base top top)) tt)
        regs T1 = same_zero cs s.t1 t.t1
        regs T2 = same_zero cs s.t2 t.t2
        regs C1 = same_zero cs s.c1 t.c1
        regs C2 = same_zero cs s.c2 t.c2
        regs A0 = a0
        regs A1 = same_zero cs s.a1 t.a1
        regs A2 = same_zero cs s.a2 t.a2
        regs A3 = same_zero cs s.a3 t.a3
        regs G0 = same_zero cs s.g0 t.g0
        regs G1 = same_zero cs s.g1 t.g1
        regs G2 = same_zero cs s.g2 t.g2

    pub arrive_alike : (ds : Calls) → SameCrossing g h names cs a b ds → Alike g h names ds a.after b.after
    arrive_alike _ (by_call d f e s t ev ew base sites a0 a1 a2 a3) =
        call_alike d f e s t base sites a0 a1 a2 a3
    arrive_alike _ (by_leave d top s t a0 newest) = leave_alike d top s t a0 newest
