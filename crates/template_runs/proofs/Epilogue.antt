-- The epilogue, from its first word to the `xjmp` that ends it.
use Rattle.std.proofs.Common.{◌≡◌, ◌≢◌, ℕ, zero, suc, ◌+◌, ◌-◌, ◌*◌, ◌≤◌, pos, List, [], ◌∷◌, ◌++◌, length}
use Rattle.std.proofs.Common.{refl, ap, ◌∙◌, subst, arith, length-append, Some, inl, inr, ◌<◌}
use Rattle.cap_words.specs.declared.Word.TheVariants.{Int}
use Rattle.lcm_isa.specs.declared.Reg.{Reg}
use Rattle.lcm_isa.specs.declared.Reg.TheVariants.{Pc, Rcode, Rdata, Stk, Dat, T1, T2, C1, C2, A0, A1, A2, A3}
use Rattle.lcm_isa.specs.declared.Reg.TheVariants.{G0, G1, G2}
use Rattle.lcm_isa.specs.declared.Operand.TheVariants.{Imm}
use Rattle.lcm_isa.specs.declared.Instr.{Instr}
use Rattle.lcm_isa.specs.declared.Instr.TheVariants.{Move, Store, Cca, Load, Xjmp}
use Rattle.lcm_machine.specs.declared.Place.TheVariants.{R}
use Rattle.lcm_machine.specs.Maps.{Regs}
use Rattle.lcm_machine.specs.Places.{reg}
use Rattle.lcm_machine.specs.Row.{put}
use Rattle.lcm_machine.proofs.Offers.{set_goes, cell-set_same, cell-set_other}
use Rattle.linked_starts.specs.Parts.{PartSeen}
use Rattle.overlay_machine.specs.declared.words.OWord.{OWord}
use Rattle.overlay_machine.specs.declared.words.OWord.TheVariants.{Plain}
use Rattle.overlay_machine.specs.Words.{look}
use Rattle.overlay_machine.specs.State.{OpenFrame, OState}
use Rattle.overlay_machine.specs.Link.{Link, IsTrusted}
use Rattle.overlay_machine.specs.Linked.{IsLink}
use Rattle.template_runs.specs.Runs.{RunsOn}
use Rattle.template_runs.proofs.Steps.{At, Placed, Code, next_pc, go}
use Rattle.template_runs.proofs.Rows.{moved, Here, Free, free_t1, free_t2, free_c1, free_c2, free_a1, free_a2}
use Rattle.template_runs.proofs.Rows.{free_a3, free_g0, free_g1, free_g2, free_rcode, free_rdata}
use Rattle.template_runs.proofs.Frames.{popped, pop_law, pop_to_law, IsWipedAt}
use Rattle.lcm_machine.specs.Cells.{cell, set_cell}
use Rattle.std.proofs.lemmas.Bool.{cases_lt}

last_of : (x : OWord) (ws : List OWord) → (front : List OWord) × (y : OWord) × (x ∷ ws ≡ front ++ y ∷ [])
last_of x [] = ([], x, refl)
last_of x (w ∷ ws) = let r = last_of w ws in (x ∷ r.0, r.1, ap (λ l. x ∷ l) r.2)

module _ (g : Link) (linked : IsLink g) (p : PartSeen) (ip : IsTrusted g p) (top : ℕ) (mem : ℕ → OWord)
    (fs : List OpenFrame) where
  -- ---- slots wiped, from the last one on

  abbrev pub pops : ℕ → List Instr
  pops zero = []
  pops (suc n) = Cca Stk (Imm (pos 1)) ∷ Store Stk T1 ∷ pops n

  -- the cells of slots from one up to below another hold 0, and those after them are as before
  pub record AreWiped (i n : ℕ) (o q : OState) : Type 0 where
    pub wiped : (j : ℕ) → i ≤ j → j < n → cell q.maps.cells (top - j) ≡ Some (Plain (Int (pos 0)))
    pub others : (a : ℕ) → a + n ≤ top → cell q.maps.cells a ≡ cell o.maps.cells a

  -- one slot more, that was wiped before them
  more_wiped : (n m at : ℕ) → m ≡ n + 1 → at ≡ 2 + n → g.layout.stack.base + (2 + m) ≤ top + 1
      → (o q s : OState) → s.maps.cells ≡ set_cell o.maps.cells (top - at) (Plain (Int (pos 0)))
      → AreWiped 2 (2 + n) s q → AreWiped 2 (2 + m) o q
  more_wiped n m at e ea low o q s set w = record {
    wiped = λ j lo hi. elim (cases_lt j (2 + n))
        as (λ _. cell q.maps.cells (top - j) ≡ Some (Plain (Int (pos 0)))) [
          | inl lt ↦ w.wiped j lo lt
          | inr ge ↦ (let a : top - j ≡ top - at = omega (arith, ge, hi, e, ea) in
              ap (cell q.maps.cells) a ∙ w.others (top - at) (omega (arith, e, ea, low))
              ∙ ap (λ m. cell m (top - at)) set
              ∙ cell-set_same o.maps.cells (top - at) (Plain (Int (pos 0))))
        ];
    others = λ a room. w.others a (omega (arith, room, e)) ∙ ap (λ m. cell m a) set
        ∙ cell-set_other o.maps.cells (top - at) a (Plain (Int (pos 0)))
        (let ne : a ≢ top - at = omega (arith, room, e, ea) in ne);
  }

  -- all but the first two
  pub pops_law : (j : ℕ) (rc rd : OWord) (rest : List OWord) → length rest ≡ j
      → (k : ℕ) (want : RunsOn g.layout) (c b : ℕ) (o : OState) → Code g linked p k (pops j)
      → At g linked p k o
      → Here g linked p (2 + length rest) top (rc ∷ rd ∷ rest) mem fs o → o.maps.regs.t1 ≡ Plain (Int (pos 0))
      → ((i : ℕ) → i < 2 + length rest → want.May (top - i))
      → ((q : OState) → Here g linked p 2 top (rc ∷ rd ∷ []) mem fs q → At g linked p (k + 2 * j) q
      → q.maps.regs.t1 ≡ Plain (Int (pos 0)) → q.maps.regs.a0 ≡ o.maps.regs.a0
      → AreWiped 2 (2 + length rest) o q → want.Good b q)
      → 2 * j + b ≤ c → want.Good c o
  pops_law zero rc rd [] e k want c b o code at h t1 mays u le =
      let k0 : k ≡ k + 2 * 0 = omega arith in
      let z : 2 + 0 ≡ 2 = omega arith in
      want.spend b c o (omega (arith, le))
      (u o (subst (λ x. Here g linked p x top (rc ∷ rd ∷ []) mem fs o) z h)
      (subst (λ x. At g linked p x o) k0 at) t1 refl
      (record { wiped = λ i lo hi. absurd (omega (arith, lo, hi)); others = λ a room. refl }))
  pops_law zero rc rd (x ∷ rest) e k want c b o code at h t1 mays u le = absurd (omega (arith, e))
  pops_law (suc j) rc rd [] e k want c b o code at h t1 mays u le = absurd (omega (arith, e))
  pops_law (suc j) rc rd (x ∷ rest) e k want c b o code at h t1 mays u le =
      let r = last_of x rest in
      let front = rc ∷ rd ∷ r.0 in
      let len = length-append r.0 (r.1 ∷ []) in
      let lens : length (x ∷ rest) ≡ length r.0 + 1 = ap length r.2 ∙ len in
      let one : 2 + length (x ∷ rest) ≡ length (rc ∷ rd ∷ r.0) + 1 = omega (arith, lens) in
      let h1 : Here g linked p (length (rc ∷ rd ∷ r.0) + 1) top ((rc ∷ rd ∷ r.0) ++ r.1 ∷ []) mem fs o =
      subst (λ y. Here g linked p y top ((rc ∷ rd ∷ r.0) ++ r.1 ∷ []) mem fs o) one
      (subst (λ y. Here g linked p (2 + length (x ∷ rest)) top (rc ∷ rd ∷ y) mem fs o) r.2 h) in
      let ej : length r.0 ≡ j = omega (arith, e, lens) in
      let le1 : 2 + (2 * j + b) ≤ c = omega (arith, le) in
      let two : length (rc ∷ rd ∷ r.0) ≡ 2 + length r.0 = omega arith in
      pop_law g linked p ip top mem fs k want c (2 * j + b) (rc ∷ rd ∷ r.0) r.1 o (code.0, (code.1.0, tt)) at
      h1 t1 (mays (length (rc ∷ rd ∷ r.0)) (omega (arith, lens)))
      (λ h2 at2.
      pops_law j rc rd r.0 ej (k + 1 + 1) want (2 * j + b) b
      (popped g linked p ip top mem fs k o (top - length (rc ∷ rd ∷ r.0))) code.1.1 at2
      (subst (λ y. Here g linked p y top (rc ∷ rd ∷ r.0) mem fs
      (popped g linked p ip top mem fs k o (top - length (rc ∷ rd ∷ r.0)))) two h2) t1
      (λ i lt. mays i (omega (arith, lens, lt)))
      (λ q hq atq t1q a0q wq.
      (let ke : k + 1 + 1 + 2 * j ≡ k + 2 * suc j = omega arith in
      u q hq (subst (λ y. At g linked p y q) ke atq) t1q a0q
      (more_wiped (length r.0) (length (x ∷ rest)) (length (rc ∷ rd ∷ r.0)) lens two h.low o q
      (popped g linked p ip top mem fs k o (top - length (rc ∷ rd ∷ r.0))) refl wq))) (omega arith))
      le1

  -- ---- a register is set to 0

  abbrev pub zeroed : OState → Reg → ℕ → OState
  zeroed o r k = record o {
    maps =
        put (put o.maps (R r) (Plain (Int (pos 0)))) (R Pc) (Plain (next_pc g linked p k));
  }

  pub zero_law : (r : Reg) → Free g linked r
      → (w : ℕ) (words : List OWord) (k : ℕ) (want : RunsOn g.layout) (b : ℕ) (o : OState)
      → Placed g linked p k (Move r (Imm (pos 0))) → At g linked p k o → Here g linked p w top words mem fs o
      → (Here g linked p w top words mem fs (zeroed o r k) → At g linked p (k + 1) (zeroed o r k)
      → want.Good b (zeroed o r k)) → want.Good (1 + b) o
  zero_law r free w words k want b o placed at h u =
      go g linked p k (Move r (Imm (pos 0))) o h.valid at placed refl want b _
      (set_goes look Plain r (pos 0) _ o.maps free.no_pc) refl refl (λ v1 at1.
      u (moved g linked h v1 (ap look (free.keeps_stk o.maps.regs (Plain (Int (pos 0)))) ∙ h.stk)
      (ap look (free.keeps_dat o.maps.regs (Plain (Int (pos 0)))) ∙ h.dat) refl refl) at1)

  -- ---- all of it

  abbrev pub epilogue : ℕ → List Instr
  epilogue j =
      Move T1 (Imm (pos 0))
      ∷ (pops j ++ (Cca Stk (Imm (pos 1)) ∷ Load Rdata Stk ∷ Store Stk T1 ∷ Cca Stk (Imm (pos 1)) ∷ Load
      Rcode Stk ∷ Store Stk T1
      ∷ Move T2 (Imm (pos 0)) ∷ Move C1 (Imm (pos 0)) ∷ Move C2 (Imm (pos 0)) ∷ Move A1 (Imm (pos 0)) ∷ Move
      A2 (Imm (pos 0)) ∷ Move A3 (Imm (pos 0)) ∷ Move G0 (Imm (pos 0)) ∷ Move G1 (Imm (pos 0)) ∷ Move G2
      (Imm (pos 0))
      ∷ Xjmp Rcode Rdata ∷ []))

  code_front : (k : ℕ) (a b : List Instr) → Code g linked p k (a ++ b) → Code g linked p k a
  code_front k [] b h = tt
  code_front k (i ∷ a) b h = (h.0, code_front (k + 1) a b h.1)

  code_back : (k : ℕ) (a b : List Instr) → Code g linked p k (a ++ b) → Code g linked p (k + length a) b
  code_back k [] b h = let z : k ≡ k + 0 = omega arith in subst (λ x. Code g linked p x b) z h
  code_back k (i ∷ a) b h = let z : k + 1 + length a ≡ k + length (i ∷ a) = omega arith in
      subst (λ x. Code g linked p x b) z (code_back (k + 1) a b h.1)

  length-pops : (j : ℕ) → length (pops j) ≡ 2 * j
  length-pops zero = refl
  length-pops (suc j) = let e = length-pops j in omega (arith, e)

  -- what is known at the `xjmp`
  pub record Left (o q : OState) (k n : ℕ) (rc rd : OWord) : Type 0 where
    pub here : Here g linked p 0 top [] mem fs q
    pub at : At g linked p k q
    pub jump : Placed g linked p k (Xjmp Rcode Rdata)
    pub code : q.maps.regs.rcode ≡ rc
    pub half : q.maps.regs.rdata ≡ rd
    pub value : q.maps.regs.a0 ≡ o.maps.regs.a0
    pub wiped : (j : ℕ) → j < n → cell q.maps.cells (top - j) ≡ Some (Plain (Int (pos 0)))
    pub clean : (d : Reg) → d ≢ Pc → d ≢ Dat → d ≢ Stk → d ≢ Rcode → d ≢ Rdata → d ≢ A0
        → reg q.maps.regs d ≡ Plain (Int (pos 0))

  -- registers of which the others are set to 0
  clean : (rs : Regs OWord) → rs.t1 ≡ Plain (Int (pos 0)) → (x : OWord) → (d : Reg) → d ≢ Pc → d ≢ Dat
      → d ≢ Stk → d ≢ Rcode → d ≢ Rdata → d ≢ A0
      → reg (record rs {
        pc = x;
        t2 = Plain (Int (pos 0));
        c1 = Plain (Int (pos 0));
        c2 = Plain (Int (pos 0));
        a1 = Plain (Int (pos 0));
        a2 = Plain (Int (pos 0));
        a3 = Plain (Int (pos 0));
        g0 = Plain (Int (pos 0));
        g1 = Plain (Int (pos 0));
        g2 = Plain (Int (pos 0));
      }) d ≡ Plain
      (Int (pos 0))
  clean rs t x Pc n1 n2 n3 n4 n5 n6 = absurd (n1 refl)
  clean rs t x Dat n1 n2 n3 n4 n5 n6 = absurd (n2 refl)
  clean rs t x Stk n1 n2 n3 n4 n5 n6 = absurd (n3 refl)
  clean rs t x Rcode n1 n2 n3 n4 n5 n6 = absurd (n4 refl)
  clean rs t x Rdata n1 n2 n3 n4 n5 n6 = absurd (n5 refl)
  clean rs t x A0 n1 n2 n3 n4 n5 n6 = absurd (n6 refl)
  clean rs t x T1 n1 n2 n3 n4 n5 n6 = t
  clean rs t x T2 n1 n2 n3 n4 n5 n6 = refl
  clean rs t x C1 n1 n2 n3 n4 n5 n6 = refl
  clean rs t x C2 n1 n2 n3 n4 n5 n6 = refl
  clean rs t x A1 n1 n2 n3 n4 n5 n6 = refl
  clean rs t x A2 n1 n2 n3 n4 n5 n6 = refl
  clean rs t x A3 n1 n2 n3 n4 n5 n6 = refl
  clean rs t x G0 n1 n2 n3 n4 n5 n6 = refl
  clean rs t x G1 n1 n2 n3 n4 n5 n6 = refl
  clean rs t x G2 n1 n2 n3 n4 n5 n6 = refl

  pub epilogue_law : (rc rd : OWord) (rest : List OWord) (k : ℕ) (want : RunsOn g.layout) (c b : ℕ)
      (o : OState)
      → Code g linked p k (epilogue (length rest)) → At g linked p k o
      → Here g linked p (2 + length rest) top (rc ∷ rd ∷ rest) mem fs o
      → ((i : ℕ) → i < 2 + length rest → want.May (top - i))
      → ((q : OState) (e : ℕ) → Left o q e (2 + length rest) rc rd → want.Good b q)
      → 2 * length rest + 16 + b ≤ c
      → want.Good c o
  epilogue_law rc rd rest k want c b o code at h mays u le =
      let j = length rest in
      let tail = code_back (k + 1) (pops (length rest)) _ code.1 in
      let lp = length-pops (length rest) in
      let le1 : 1 + (2 * length rest + (15 + b)) ≤ c = omega (arith, le) in
      want.spend (1 + (2 * length rest + (15 + b))) c o le1
      (zero_law T1 (free_t1 g linked)
      (2 + length rest) (rc ∷ rd ∷ rest) k want (2 * length rest + (15 + b)) o code.0 at h
      (λ h1 at1.
      pops_law (length rest) rc rd rest refl (k + 1) want (2 * length rest + (15 + b)) (15 + b)
      (zeroed o T1 k) (code_front (k + 1) (pops (length rest)) _ code.1) at1 h1 refl
      mays (λ q2 h2 at2 t12 a02 w2.
      let k2 = k + 1 + 2 * length rest in
      let here_k : k + 1 + length (pops (length rest)) ≡ k + 1 + 2 * length rest = omega (arith, lp) in
      let tl = subst (λ x. Code g linked p x
      (Cca Stk (Imm (pos 1)) ∷ Load Rdata Stk ∷ Store Stk T1 ∷ Cca Stk (Imm (pos 1)) ∷ Load Rcode
      Stk ∷ Store Stk T1
      ∷ Move T2 (Imm (pos 0)) ∷ Move C1 (Imm (pos 0)) ∷ Move C2 (Imm (pos 0)) ∷ Move A1 (Imm (pos 0)) ∷ Move
      A2 (Imm (pos 0)) ∷ Move A3 (Imm (pos 0)) ∷ Move G0 (Imm (pos 0)) ∷ Move G1 (Imm (pos 0)) ∷ Move G2
      (Imm (pos 0))
      ∷ Xjmp Rcode Rdata ∷ [])) here_k tail in
      rest_law rc rd (k + 1 + 2 * length rest) want b q2 tl at2 h2 t12
      (λ i lt. mays i (omega (arith, lt)))
      (λ q e l w. u q e (record {
        here = l.here;
        at = l.at;
        jump = l.jump;
        code = l.code;
        half = l.half;
        value = l.value ∙ a02;
        wiped = λ j lt. elim (cases_lt j 2)
            as (λ _. cell q.maps.cells (top - j) ≡ Some (Plain (Int (pos 0)))) [
              | inl two ↦ l.wiped j two
              | inr ge ↦ (let lo = h.low in
                  w (top - j) (omega (arith, lt, ge, lo)) ∙ w2.wiped j ge lt)
            ];
        clean = l.clean;
      })))
      (omega arith)))
    where
      two_wiped : (o q1 q2 : OState) → g.layout.stack.base + 2 ≤ top + 1
          → IsWipedAt (top - 1) o.maps.cells q1.maps.cells → IsWipedAt (top - 0) q1.maps.cells q2.maps.cells
          → (j : ℕ) → j < 2 → cell q2.maps.cells (top - j) ≡ Some (Plain (Int (pos 0)))
      two_wiped o q1 q2 low z1 z2 zero lt = z2.wiped
      two_wiped o q1 q2 low z1 z2 (suc zero) lt =
          z2.others (top - 1) (let ne : top - 1 ≢ top - 0 = omega (arith, low) in ne) ∙ z1.wiped
      two_wiped o q1 q2 low z1 z2 (suc (suc j)) lt = absurd (omega (arith, lt))

      rest_law : (rc rd : OWord) (k : ℕ) (want : RunsOn g.layout) (b : ℕ) (o : OState)
          → Code g linked p k (Cca Stk (Imm (pos 1)) ∷ Load Rdata Stk ∷ Store Stk T1 ∷ Cca Stk
          (Imm (pos 1)) ∷ Load Rcode Stk ∷ Store Stk T1
          ∷ Move T2 (Imm (pos 0)) ∷ Move C1 (Imm (pos 0)) ∷ Move C2 (Imm (pos 0)) ∷ Move A1
          (Imm (pos 0)) ∷ Move A2 (Imm (pos 0)) ∷ Move A3 (Imm (pos 0)) ∷ Move G0 (Imm (pos 0)) ∷ Move
          G1 (Imm (pos 0)) ∷ Move G2 (Imm (pos 0))
          ∷ Xjmp Rcode Rdata ∷ [])
          → At g linked p k o → Here g linked p 2 top (rc ∷ rd ∷ []) mem fs o
          → o.maps.regs.t1 ≡ Plain (Int (pos 0))
          → ((i : ℕ) → i < 2 → want.May (top - i))
          → ((q : OState) (e : ℕ) → Left o q e 2 rc rd
          → ((a : ℕ) → a + 2 ≤ top → cell q.maps.cells a ≡ cell o.maps.cells a) → want.Good b q)
          → want.Good (15 + b) o
      rest_law rc rd k want b o code at h t1 mays u =
          let less1 : 3 + (12 + b) ≤ 15 + b = omega arith in
          let less2 : 3 + (9 + b) ≤ 12 + b = omega arith in
          let less3 : 1 + (1 + (1 + (1 + (1 + (1 + (1 + (1 + (1 + b)))))))) ≤ 9 + b = omega arith in
          pop_to_law g linked p ip top mem fs k want (15 + b) (12 + b) Rdata (free_rdata g linked)
          (λ rs y. refl) (rc ∷ []) rd o (code.0, (code.1.0, (code.1.1.0, tt))) at h t1
          (mays 1 (omega arith)) (λ q1 e1 z1 h1 at1.
          pop_to_law g linked p ip top mem fs (k + 1 + 1 + 1) want (12 + b) (9 + b) Rcode
          (free_rcode g linked)
          (λ rs y. refl) [] rc q1 (code.1.1.1.0, (code.1.1.1.1.0, (code.1.1.1.1.1.0, tt))) at1 h1
          (ap (λ x. x.t1) e1 ∙ t1)
          (mays 0 (omega arith)) (λ q2 e2 z2 h2 at2.
          want.spend _ (9 + b) q2 less3
          (zero_law T2 (free_t2 g linked) 0 [] _ want _ q2 code.1.1.1.1.1.1.0 at2 h2 (λ h3 at3.
          zero_law C1 (free_c1 g linked) 0 [] _ want _ _ code.1.1.1.1.1.1.1.0 at3 h3 (λ h4 at4.
          zero_law C2 (free_c2 g linked) 0 [] _ want _ _ code.1.1.1.1.1.1.1.1.0 at4 h4 (λ h5 at5.
          zero_law A1 (free_a1 g linked) 0 [] _ want _ _ code.1.1.1.1.1.1.1.1.1.0 at5 h5 (λ h6 at6.
          zero_law A2 (free_a2 g linked) 0 [] _ want _ _ code.1.1.1.1.1.1.1.1.1.1.0 at6 h6 (λ h7 at7.
          zero_law A3 (free_a3 g linked) 0 [] _ want _ _ code.1.1.1.1.1.1.1.1.1.1.1.0 at7 h7 (λ h8 at8.
          zero_law G0 (free_g0 g linked) 0 [] _ want _ _ code.1.1.1.1.1.1.1.1.1.1.1.1.0 at8 h8 (λ h9 at9.
          zero_law G1 (free_g1 g linked) 0 [] _ want _ _ code.1.1.1.1.1.1.1.1.1.1.1.1.1.0 at9 h9 (λ h10 at10.
          zero_law G2 (free_g2 g linked) 0 [] _ want b _ code.1.1.1.1.1.1.1.1.1.1.1.1.1.1.0 at10 h10
          (λ h11 at11.
          u _ _ (record {
            here = h11;
            at = at11;
            jump = code.1.1.1.1.1.1.1.1.1.1.1.1.1.1.1.0;
            code = ap (λ x. x.rcode) e2;
            half = ap (λ x. x.rdata) e2 ∙ ap (λ x. x.rdata) e1;
            value = ap (λ x. x.a0) e2 ∙ ap (λ x. x.a0) e1;
            wiped = two_wiped o q1 q2 h.low z1 z2;
            clean = clean q2.maps.regs (ap (λ x. x.t1) e2 ∙ ap (λ x. x.t1) e1 ∙ t1) _;
          })
          (λ a room. (let n0 : a ≢ top - 0 = omega (arith, room) in
          let n1 : a ≢ top - 1 = omega (arith, room) in z2.others a n0 ∙ z1.others a n1)))))))))))))
          less2)
          less1
