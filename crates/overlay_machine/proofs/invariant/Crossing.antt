-- An `xjmp` of safe words goes onto safe code with safe data, or onto an entry of a trusted part with its
-- data capability.
use Rattle.std.proofs.Common.{◌≡◌, ◌≢◌, ◌⊎◌, inl, inr, ℕ, pos, Bool, true, false, List, Some, None, refl, sym}
use Rattle.std.proofs.Common.{ap, ◌∙◌, subst, arith, eqb-true, eq-eqb}
use Rattle.std.specs.Prelude.{not, ◌==◌, if◌then◌else◌}
use Rattle.std.specs.List.{Contains}
use Rattle.linked_starts.proofs.Offers.{any_of}
use Rattle.cap_words.specs.declared.Word.{Word}
use Rattle.cap_words.specs.declared.Word.TheVariants.{Int, Mem, Seal, Sealed}
use Rattle.cap_words.specs.declared.Sealable.{Sealable}
use Rattle.cap_words.specs.declared.Sealable.TheVariants.{Mem as MemIn, Seal as SealIn}
use Rattle.cap_words.specs.declared.CapFields.{CapFields}
use Rattle.cap_words.specs.declared.Content.TheVariants.{Mem as MemC, Seal as SealC}
use Rattle.cap_words.specs.declared.Opened.{Opened}
use Rattle.cap_words.specs.Face.{opened_of}
use Rattle.cap_words.specs.Faces.{may_run}
use Rattle.cap_words.specs.Linear.{is_linear, zero_word}
use Rattle.component_file.specs.declared.component.Export.{Export}
use Rattle.lcm_isa.specs.declared.Reg.{Reg}
use Rattle.lcm_isa.specs.declared.Reg.TheVariants.{Pc, Rcode, Rdata, Stk, Dat, T1, T2, C1, C2, A0, A1, A2, A3}
use Rattle.lcm_isa.specs.declared.Reg.TheVariants.{G0, G1, G2}
use Rattle.lcm_isa.specs.declared.Instr.TheVariants.{Xjmp}
use Rattle.lcm_machine.specs.Plan.{Plan, Fails, Halts, Goes}
use Rattle.lcm_machine.specs.declared.Place.TheVariants.{R}
use Rattle.lcm_machine.specs.Maps.{Regs, State}
use Rattle.lcm_machine.specs.Places.{reg, set_reg}
use Rattle.lcm_machine.specs.Table.{is_pc, memory_content, unsealed, runs_in, no_effect, made}
use Rattle.lcm_machine.specs.Row.{put, clear, perform, opens, plan_in, outcome, row, went}
use Rattle.lcm_machine.proofs.Offers.{Gives, gives_goes, Gives-effect, Gives-ask, Gives-need, cases_reg}
use Rattle.lcm_machine.proofs.Offers.{reg-set_same, reg-set_other}
use Rattle.call_sequence.specs.Kinds.{kind_of, entry_row}
use Rattle.call_sequence.specs.Holds.{data_cap, code_at, HasKind}
use Rattle.call_sequence.specs.Places.{begins_entry}
use Rattle.linked_starts.specs.Parts.{PartSeen}
use Rattle.linked_starts.specs.Start.{Exported, code_of}
use Rattle.overlay_machine.specs.declared.words.OWord.{OWord}
use Rattle.overlay_machine.specs.declared.words.OWord.TheVariants.{Plain}
use Rattle.overlay_machine.specs.Words.{look}
use Rattle.overlay_machine.specs.State.{OpenFrame}
use Rattle.overlay_machine.specs.Link.{Link, IsTrusted, ranges_of, IsStackCell}
use Rattle.overlay_machine.specs.Linked.{IsLink}
use Rattle.overlay_machine.specs.Safe.{IsSafeIn, IsOpenSeal, IsHalf, IsTrustedHalf, IsSafe}
use Rattle.overlay_machine.specs.Invariant.{PcPart, at_row, outside}

-- what an `xjmp` that goes has done
pub record Crossed (r1 r2 : Reg) (s s' : State OWord) : Type 0 where
  pub code : Opened
  pub half : Opened
  pub cap : CapFields
  pub opens_code : opened_of (look (reg s.regs r1)) ≡ Some code
  pub opens_half : opened_of (look (reg s.regs r2)) ≡ Some half
  pub one_seal : code.seal ≡ half.seal
  pub memory : memory_content code.content ≡ Some cap
  pub runs : may_run cap.perm ≡ true
  pub no_code : not (runs_in half.content) ≡ true
  pub pc : reg s'.regs Pc ≡ Plain (Mem cap)
  pub dat : reg s'.regs Dat ≡ Plain (unsealed half.content)
  pub others : (d : Reg) → d ≢ Pc → d ≢ Dat
      → (reg s'.regs d ≡ reg s.regs d) ⊎ (reg s'.regs d ≡ zero_word Plain)
  pub cells : s'.cells ≡ s.cells

cleared : (s : State OWord) (r : Reg) (b : Bool) (d : Reg)
    → (reg (if b then put s (R r) (zero_word Plain) else s).regs d ≡ reg s.regs d)
    ⊎ (reg (if b then put s (R r) (zero_word Plain) else s).regs d ≡ zero_word Plain)
cleared s r false d = inl refl
cleared s r true d =
    elim (cases_reg d r)
    as (λ _. (reg (set_reg s.regs r (zero_word Plain)) d ≡ reg s.regs d)
    ⊎ (reg (set_reg s.regs r (zero_word Plain)) d ≡ zero_word Plain)) [
      | inl e ↦ inr (rw e (reg-set_same s.regs r (zero_word Plain)))
      | inr ne ↦ inl (reg-set_other s.regs r d (zero_word Plain) ne)
    ]

cleared_cells : (s : State OWord) (r : Reg) (b : Bool)
    → (if b then put s (R r) (zero_word Plain) else s).cells ≡ s.cells
cleared_cells s r true = refl
cleared_cells s r false = refl

crossed_effect : (s : State OWord) (r1 r2 : Reg) (code half : Opened) (c : CapFields)
    → opened_of (look (reg s.regs r1)) ≡ Some code → opened_of (look (reg s.regs r2)) ≡ Some half
    → code.seal ≡ half.seal → memory_content code.content ≡ Some c
    → may_run c.perm ≡ true → not (runs_in half.content) ≡ true
    → Crossed r1 r2 s
    (perform look Plain s
    (record no_effect
    { spent = Some r2; first = made Pc (Mem c); second = made Dat (unsealed half.content) }))
unfolding perform clear
crossed_effect s r1 r2 code half c e1 e2 q m run nc =
    let b = is_linear (look (reg s.regs r2)) in
    record {
      code = code;
      half = half;
      cap = c;
      opens_code = e1;
      opens_half = e2;
      one_seal = q;
      memory = m;
      runs = run;
      no_code = nc;
      pc = refl;
      dat = refl;
      others = λ d np nd. (let x : State OWord = if b then put s (R r2) (zero_word Plain) else s in
          rw (
            reg-set_other (set_reg x.regs Pc (Plain (Mem c))) Dat d (Plain (unsealed half.content))
                nd,
            reg-set_other x.regs Pc d (Plain (Mem c)) np,
          ) (cleared s r2 b d));
      cells = cleared_cells s r2 b;
    }

crossed_plan : (s s' : State OWord) (r1 r2 : Reg) (p : Plan)
    → Gives (λ e. Crossed r1 r2 s (perform look Plain s e)) p → outcome look Plain s p ≡ went s'
    → Crossed r1 r2 s s'
crossed_plan s s' r1 r2 (Fails f) g e = cc
crossed_plan s s' r1 r2 Halts g e = cc
crossed_plan s s' r1 r2 (Goes x) g e = let m : perform look Plain s x ≡ s' =
    cc in subst (Crossed r1 r2 s) m (Gives-effect g)

pub xjmp_crossed : (s s' : State OWord) (r1 r2 : Reg) (next : Word)
    → row look Plain (Xjmp r1 r2) next s ≡ went s' → Crossed r1 r2 s s'
unfolding row plan_in opens
xjmp_crossed s s' r1 r2 next e = crossed_plan s s' r1 r2 _
    (Gives-need _ _ _
    (λ code e1.
    Gives-need _ _ _
    (λ half e2. Gives-ask _ _ _
    (λ q. Gives-need _ _ _ (λ c m. Gives-ask _ _ _ (λ _. Gives-ask _ _ _ (λ run. Gives-ask _ _ _ (λ nc.
    gives_goes (crossed_effect s r1 r2 code half c e1 e2 (eqb-true code.seal half.seal q) m run nc)))))))))
    e

-- ---- halves

pub entry_begins : (p : PartSeen) (e : Export) → Contains p.component.exports e
    → begins_entry p.component e.offset ≡ true
unfolding begins_entry
entry_begins p e c =
    any_of (λ x. x.offset == e.offset) p.component.exports e c (eq-eqb e.offset e.offset refl)

pub code_is : (x : Exported) → x.part.trusted ≡ true → code_of x ≡ code_at (ranges_of x.part) x.export.offset
code_is x t = rw t refl

-- the capability over a part's data, at its base
abbrev pub whole_data : PartSeen → CapFields
whole_data p = data_cap (ranges_of p) (pos p.component.data_base)

module _ (g : Link) (linked : IsLink g) (fs : List OpenFrame) where
  -- where a pair of safe words leads, by their seal: under one of untrusted code onto safe words, under the
  -- closure seal of a trusted part onto one of its entries, with its data
  pub data Leads_to (n : ℕ) (c : CapFields) (d : Word) : Type 0 where
    to_safe : IsOpenSeal g n → IsSafe g fs (Plain (Mem c)) → IsSafe g fs (Plain d) → Leads_to n c d
    to_entry : (p : PartSeen) (o : ℕ) → IsTrusted g p → begins_entry p.component o ≡ true
        → n ≡ p.component.closure → c ≡ code_at (ranges_of p) o → d ≡ Mem (whole_data p) → Leads_to n c d

  pub seal_is : (n : ℕ) (x : Sealable) (o : Opened) → opened_of (Sealed n x) ≡ Some o → n ≡ o.seal
  seal_is n (MemIn y) o e = cc
  seal_is n (SealIn y) o e = cc

  opened_is : (o : Opened) (n : ℕ) (x : Sealable) (k : ℕ) (d : CapFields) → Sealed n x ≡ Sealed k (MemIn d)
      → opened_of (Sealed n x) ≡ Some o → o ≡ record { seal = k; content = MemC d }
  opened_is o n x k d e f = let h : Some o ≡ Some (record { seal = k; content = MemC d }) =
      sym f ∙ ap opened_of e in cc

  cap_is : (o : Opened) (n : ℕ) (x : Sealable) (c : CapFields) (k : ℕ) (d : CapFields)
      → Sealed n x ≡ Sealed k (MemIn d) → opened_of (Sealed n x) ≡ Some o → memory_content o.content ≡ Some c
      → c ≡ d
  cap_is o n x c k d e f m = let h : Some c ≡ Some d =
      sym m ∙ ap (λ y. memory_content y.content) (opened_is o n x k d e f) in cc

  half_is : (o : Opened) (n : ℕ) (x : Sealable) (k : ℕ) (d : CapFields) → Sealed n x ≡ Sealed k (MemIn d)
      → opened_of (Sealed n x) ≡ Some o → unsealed o.content ≡ Mem d
  half_is o n x k d e f = ap (λ y. unsealed y.content) (opened_is o n x k d e f)

  code_safe : (n : ℕ) (x : Sealable) (o : Opened) (c : CapFields) → opened_of (Sealed n x) ≡ Some o
      → memory_content o.content ≡ Some c → IsSafeIn g fs x → IsSafe g fs (Plain (Mem c))
  code_safe n (MemIn y) o c e m h = let u : o ≡ record { seal = n; content = MemC y } =
      cc in let k : Some y ≡ Some c = ap (λ z. memory_content z.content) (sym u) ∙ m in let q : y ≡ c =
      cc in subst (λ z. IsSafe g fs (Plain (Mem z))) q h
  code_safe n (SealIn y) o c e m h = let u : o ≡ record { seal = n; content = SealC y } =
      cc in let k : None ≡ Some c = ap (λ z. memory_content z.content) (sym u) ∙ m in cc

  half_safe : (n : ℕ) (x : Sealable) (o : Opened) → opened_of (Sealed n x) ≡ Some o → IsSafeIn g fs x
      → IsSafe g fs (Plain (unsealed o.content))
  half_safe n (MemIn y) o e h = let u : o ≡ record { seal = n; content = MemC y } =
      cc in subst (λ z. IsSafe g fs (Plain (unsealed z.content))) (sym u) h
  half_safe n (SealIn y) o e h = let u : o ≡ record { seal = n; content = SealC y } =
      cc in subst (λ z. IsSafe g fs (Plain (unsealed z.content))) (sym u) h

  -- the seal of a half is its part's closure seal
  pub half_seal : (x : Exported) (n : ℕ) (y : Sealable) → IsHalf x (Sealed n y) → n ≡ x.part.component.closure
  half_seal x n y (inl e) = cc
  half_seal x n y (inr e) = cc

  closed_half : (n : ℕ) (y : Sealable) → IsTrustedHalf g (Sealed n y) → IsOpenSeal g n → ⊥
  closed_half n y h op =
      linked.closure_closed h.0.part h.1 (subst (λ k. IsOpenSeal g k) (half_seal h.0 n y h.3) op)

  by_halves : (u v : Exported) (n : ℕ) (x1 x2 : Sealable) (code half : Opened) (c : CapFields)
      → IsTrusted g u.part → IsTrusted g v.part → Contains u.part.component.exports u.export
      → IsHalf u (Sealed n x1) → IsHalf v (Sealed n x2)
      → opened_of (Sealed n x1) ≡ Some code → opened_of (Sealed n x2) ≡ Some half
      → memory_content code.content ≡ Some c → may_run c.perm ≡ true → not (runs_in half.content) ≡ true
      → Leads_to n c (unsealed half.content)
  by_halves u v n x1 x2 code half c ip iq en (inl e) (inr f) e1 e2 m run nc =
      let np : n ≡ u.part.component.closure = half_seal u n x1 (inl e) in
      let nq : n ≡ v.part.component.closure = half_seal v n x2 (inr f) in
      let same : u.part ≡ v.part = linked.one_closure u.part v.part ip iq (sym np ∙ nq) in
      let h1 : c ≡ code_of u = cap_is code n x1 c u.part.component.closure (code_of u) e e1 m in
      let h2 : unsealed half.content ≡ Mem (whole_data v.part) =
      half_is half n x2 v.part.component.closure (whole_data v.part) f e2 in
      let h3 : unsealed half.content ≡ Mem (whole_data u.part) =
      h2 ∙ ap (λ p. Mem (whole_data p)) (sym same) in
      to_entry u.part u.export.offset ip (entry_begins u.part u.export en) np (h1 ∙ code_is u ip.1) h3
  by_halves u v n x1 x2 code half c ip iq en (inr e) h e1 e2 m run nc =
      let h1 = cap_is code n x1 c u.part.component.closure (whole_data u.part) e e1 m in
      let bad : false ≡ true = ap (λ x. may_run x.perm) (sym h1) ∙ run in cc
  by_halves u v n x1 x2 code half c ip iq en (inl e) (inl f) e1 e2 m run nc =
      let h2 : half ≡ record { seal = v.part.component.closure; content = MemC (code_of v) } =
      opened_is half n x2 v.part.component.closure (code_of v) f e2 in
      let h3 : half
      ≡ record {
        seal = v.part.component.closure;
        content =
            MemC (code_at (ranges_of v.part) v.export.offset);
      } =
      h2 ∙ ap (λ x. record { seal = v.part.component.closure; content = MemC x }) (code_is v iq.1) in
      let bad : false ≡ true = ap (λ x. not (runs_in x.content)) (sym h3) ∙ nc in cc

  -- an `xjmp` of two safe words
  pub leads_to : (x1 x2 : Word) (code half : Opened) (c : CapFields)
      → IsSafe g fs (Plain x1) → IsSafe g fs (Plain x2)
      → opened_of x1 ≡ Some code → opened_of x2 ≡ Some half → code.seal ≡ half.seal
      → memory_content code.content ≡ Some c → may_run c.perm ≡ true → not (runs_in half.content) ≡ true
      → Leads_to code.seal c (unsealed half.content)
  leads_to (Int z) x2 code half c s1 s2 e1 e2 q m run nc = cc
  leads_to (Mem z) x2 code half c s1 s2 e1 e2 q m run nc = cc
  leads_to (Seal z) x2 code half c s1 s2 e1 e2 q m run nc = cc
  leads_to (Sealed n a) (Int z) code half c s1 s2 e1 e2 q m run nc = cc
  leads_to (Sealed n a) (Mem z) code half c s1 s2 e1 e2 q m run nc = cc
  leads_to (Sealed n a) (Seal z) code half c s1 s2 e1 e2 q m run nc = cc
  leads_to (Sealed n a) (Sealed k b) code half c s1 s2 e1 e2 q m run nc =
      subst (λ y. Leads_to y c (unsealed half.content)) (seal_is n a code e1) (by_safe s1 s2)
    where
      nk : n ≡ k
      nk = seal_is n a code e1 ∙ q ∙ sym (seal_is k b half e2)

      by_safe : IsSafe g fs (Plain (Sealed n a)) → IsSafe g fs (Plain (Sealed k b))
          → Leads_to n c (unsealed half.content)
      by_safe (inl h) (inl j) = to_safe h.0 (code_safe n a code c e1 m h.1) (half_safe k b half e2 j.1)
      by_safe (inl h) (inr j) = absurd (closed_half k b j (subst (λ y. IsOpenSeal g y) nk h.0))
      by_safe (inr h) (inl j) = absurd (closed_half n a h (subst (λ y. IsOpenSeal g y) (sym nk) j.0))
      by_safe (inr h) (inr j) =
          by_halves h.0 j.0 n a b code half c h.1 j.1 h.2 h.3
          (subst (λ y. IsHalf j.0 (Sealed y b)) (sym nk) j.3)
          e1 (subst (λ y. opened_of (Sealed y b) ≡ Some half) (sym nk) e2) m run nc

  -- where pc and the registers stand after it
  pub crossed_pc : {n : ℕ} (rs : Regs OWord) (c : CapFields) (d : Word) → Leads_to n c d
      → reg rs Pc ≡ Plain (Mem c) → reg rs Dat ≡ Plain d
      → ((r : Reg) → r ≢ Pc → r ≢ Dat → IsSafe g fs (reg rs r)) → PcPart g fs rs
  unfolding kind_of
  crossed_pc rs c d (to_safe under s1 s2) ep ed others = outside each
    where
      each : (r : Reg) → IsSafe g fs (reg rs r)
      each r = elim (cases_reg r Pc) as (λ _. IsSafe g fs (reg rs r)) [
        | inl e ↦ subst (λ w. IsSafe g fs w) (sym (ap (reg rs) e ∙ ep)) s1
        | inr np ↦
            elim (cases_reg r Dat) as (λ _. IsSafe g fs (reg rs r))
            [ inl e ↦ subst (λ w. IsSafe g fs w) (sym (ap (reg rs) e ∙ ed)) s2 | inr nd ↦ others r np nd ]
      ]
  crossed_pc rs c d (to_entry p o ip en under ec hd) ep ed others = at_row p o ip (record {
    there = entry_row;
    inside = (let k = (linked.entries p o ip en).inside in omega (arith, k));
    at_pc = ap look ep ∙ ap Mem ec;
    row = inl (en, refl);
    fits = record { long = refl; each = each };
  })
    where
      each : (r : Reg) → is_pc r ≡ false
          → HasKind look (IsSafe g fs) (IsStackCell g fs) (ranges_of p) (kind_of entry_row r) (reg rs r)
      each Pc q = cc
      each Dat q = (pos p.component.data_base, ap look ed ∙ hd)
      each Rcode q = others Rcode (λ x. cc) (λ x. cc)
      each Rdata q = others Rdata (λ x. cc) (λ x. cc)
      each Stk q = others Stk (λ x. cc) (λ x. cc)
      each T1 q = others T1 (λ x. cc) (λ x. cc)
      each T2 q = others T2 (λ x. cc) (λ x. cc)
      each C1 q = others C1 (λ x. cc) (λ x. cc)
      each C2 q = others C2 (λ x. cc) (λ x. cc)
      each A0 q = others A0 (λ x. cc) (λ x. cc)
      each A1 q = others A1 (λ x. cc) (λ x. cc)
      each A2 q = others A2 (λ x. cc) (λ x. cc)
      each A3 q = others A3 (λ x. cc) (λ x. cc)
      each G0 q = others G0 (λ x. cc) (λ x. cc)
      each G1 q = others G1 (λ x. cc) (λ x. cc)
      each G2 q = others G2 (λ x. cc) (λ x. cc)
