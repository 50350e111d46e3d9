-- What registers hold at an entry, and a prologue for which the stack is too small.
use Rattle.std.proofs.Common.{◌≡◌, ◌≢◌, inl, inr, ℕ, ◌+◌, ◌-◌, ◌*◌, ◌<◌, ◌≤◌, pos, ◌-ℤ◌, List, [], ◌∷◌, ◌++◌}
use Rattle.std.proofs.Common.{length, true, false, refl, sym, ap, ◌∙◌, subst, arith, length-append}
use Rattle.std.proofs.lemmas.Bool.{cases_lt}
use Rattle.cap_words.specs.declared.Word.TheVariants.{Mem}
use Rattle.cap_words.specs.Linear.{left_of}
use Rattle.component_file.specs.declared.component.Kind.TheVariants as kind
use Rattle.lcm_isa.specs.declared.Reg.{Reg}
use Rattle.lcm_isa.specs.declared.Reg.TheVariants.{Pc, Rcode, Rdata, Stk, Dat, T1, T2, C1, C2, A0, A1, A2, A3}
use Rattle.lcm_isa.specs.declared.Reg.TheVariants.{G0, G1, G2}
use Rattle.lcm_machine.specs.Places.{reg, set_reg}
use Rattle.call_sequence.specs.Kinds.{Row, kind_of, entry_row}
use Rattle.call_sequence.specs.Walk.{RowAt}
use Rattle.call_sequence.specs.Holds.{part_stack_cap, HasKinds, HasKind}
use Rattle.call_sequence.specs.Places.{begins_entry}
use Rattle.linked_starts.specs.Parts.{PartSeen}
use Rattle.overlay_machine.specs.declared.words.OWord.{OWord}
use Rattle.overlay_machine.specs.declared.words.OWord.TheVariants.{Plain}
use Rattle.overlay_machine.specs.declared.cases.Case.{Case}
use Rattle.overlay_machine.specs.declared.cases.Case.TheVariants.{Call, Entry, Back, Other}
use Rattle.overlay_machine.specs.Words.{look}
use Rattle.overlay_machine.specs.State.{OpenFrame, OState}
use Rattle.overlay_machine.specs.Step.{case_of}
use Rattle.overlay_machine.specs.Link.{Link, IsTrusted, IsStackCell, ranges_of}
use Rattle.overlay_machine.specs.Linked.{IsLink}
use Rattle.overlay_machine.specs.Safe.{IsSafe}
use Rattle.overlay_machine.proofs.Offers.{View, at_entry, in_part, out, view, never_entry, pc_false}
use Rattle.template_runs.specs.Public.{IsPublic}
use Rattle.template_runs.specs.Runs.{Failing}
use Rattle.template_runs.proofs.Valid.{Valid}
use Rattle.template_runs.proofs.Steps.{At, Code, next_pc}
use Rattle.template_runs.proofs.Rows.{Here}
use Rattle.template_runs.proofs.Frames.{push_law, push_fails, pushed}
use Rattle.template_runs.proofs.Entries.{case_entry, prologue, Reads}

any_kind : (d : Reg) → d ≢ Pc → d ≢ Dat → kind_of entry_row d ≡ kind.Any
unfolding kind_of
any_kind Pc a b = absurd (a refl)
any_kind Dat a b = absurd (b refl)
any_kind Rcode a b = refl
any_kind Rdata a b = refl
any_kind Stk a b = refl
any_kind T1 a b = refl
any_kind T2 a b = refl
any_kind C1 a b = refl
any_kind C2 a b = refl
any_kind A0 a b = refl
any_kind A1 a b = refl
any_kind A2 a b = refl
any_kind A3 a b = refl
any_kind G0 a b = refl
any_kind G1 a b = refl
any_kind G2 a b = refl

-- at an entry all registers but pc and data are safe
module _ (g : Link) (linked : IsLink g) (p : PartSeen) (e : ℕ) (o : OState) (v : Valid g linked o)
    (at : At g linked p e o) (entry : begins_entry p.component e ≡ true) where
  by_row : (q : PartSeen) (k : ℕ) → begins_entry q.component k ≡ true → (there : Row)
      → RowAt q.component k there
      → HasKinds look (IsSafe g o.frames) (IsStackCell g o.frames) (ranges_of q) there o.maps.regs
      → (d : Reg) → d ≢ Pc → d ≢ Dat → IsSafe g o.frames (reg o.maps.regs d)
  by_row q k en there (inl r) f d np nd =
      subst (λ x. HasKind look (IsSafe g o.frames) (IsStackCell g o.frames) (ranges_of q) x
      (reg o.maps.regs d)) (ap (λ r. kind_of r d) r.1 ∙ any_kind d np nd) (f.each d (pc_false d np))
  by_row q k en there (inr r) f d np nd = absurd (let bad : true ≡ false = sym en ∙ r.0 in cc)

  by_view : (c : Case) → c ≡ Entry (p.component.code_base + e) → View g o.frames o.maps c → (d : Reg) → d ≢ Pc
      → d ≢ Dat → IsSafe g o.frames (reg o.maps.regs d)
  by_view (Entry a) is (at_entry q k iq ea en st) d np nd = by_row q k en st.there st.row st.fits d np nd
  by_view (Entry a) is (in_part q k iq ne ns st c) d np nd = absurd (never_entry o.maps _ a c)
  by_view (Entry a) is (out h c) d np nd = absurd (never_entry o.maps _ a c)
  by_view (Call i) is w d np nd = cc
  by_view (Back r1 r2) is w d np nd = cc
  by_view Other is w d np nd = cc

  pub entry_safe : (d : Reg) → d ≢ Pc → d ≢ Dat → IsSafe g o.frames (reg o.maps.regs d)
  entry_safe d np nd =
      by_view (case_of g.layout o.maps) (case_entry g linked p e o v at entry)
      (view g linked o.frames o.maps v.holds.code v.holds.pc) d np nd

-- a prologue for which the stack is too small
module _ (g : Link) (linked : IsLink g) (p : PartSeen) (ip : IsTrusted g p) (top : ℕ) (mem : ℕ → OWord)
    (fs : List OpenFrame) where
  pub prologue_fails : (rs : List Reg) (ws words : List OWord) (k : ℕ) (want : Failing g.layout) (c : ℕ)
      (o : OState) → Code g linked p k (prologue g linked p ip top mem fs rs)
      → Reads g linked p ip top mem fs o.maps.regs rs ws → At g linked p k o
      → (h : Here g linked p (length words) top words mem fs o)
      → top + 1 < g.layout.stack.base + (length words + length ws)
      → ((j : ℕ) → j < length words + length ws → want.runs.May (top - j)) → 2 * length rs + 1 ≤ c
      → want.runs.Good c o
  prologue_fails [] ws words k want c o code reads at h short mays le =
      let l = h.low in
      let z : length ws ≡ 0 = ap length reads in
      absurd (omega (arith, l, short, z))
  prologue_fails (r ∷ rs) [] words k want c o code reads at h short mays le = absurd reads
  prologue_fails (r ∷ rs) (w ∷ ws) words k want c o code reads at h short mays le =
      elim (cases_lt top (g.layout.stack.base + length words)) as (λ _. want.runs.Good c o) [
        | inl full ↦ push_fails g linked p ip top mem fs k want c r words o code.0 at h full
            (omega (arith, le))
        | inr room ↦ (
            let len = length-append words (w ∷ []) in
            let one : length (words ++ w ∷ []) ≡ length words + 1 = omega (arith, len) in
            let le1 : 2 + (2 * length rs + 1) ≤ c = omega (arith, le) in
            let short2 : top + 1 < g.layout.stack.base + (length (words ++ w ∷ []) + length ws) =
            omega (arith, one, short) in
            push_law g linked p ip top mem fs k want.runs c (2 * length rs + 1) r reads.0 words o
            (code.0, (code.1.0, tt)) at h (omega (arith, room))
            (subst (IsPublic g) (sym reads.1) reads.2) (mays (length words) (omega arith)) (λ h1 at1.
            let q = pushed g linked p ip top mem fs k o r (h.at -ℤ pos 1) (top - length words) in
            let h2 : Here g linked p (length (words ++ w ∷ [])) top (words ++ w ∷ []) mem fs q =
            subst (λ x. Here g linked p x top (words ++ w ∷ []) mem fs q) (sym one)
            (subst (λ x. Here g linked p (length words + 1) top (words ++ x ∷ []) mem fs q) reads.1 h1) in
            let reads2 : Reads g linked p ip top mem fs q.maps.regs rs ws =
            subst (λ y. Reads g linked p ip top mem fs
            (set_reg (set_reg (set_reg (set_reg o.maps.regs r (left_of look Plain y)) Pc
            (Plain (next_pc g linked p k))) Stk
            (Plain (Mem (part_stack_cap (ranges_of p) top (h.at -ℤ pos 1)))))
            Pc (Plain (next_pc g linked p (k + 1)))) rs ws) (sym reads.1)
            (reads.3 (Plain (next_pc g linked p k))
            (Plain (Mem (part_stack_cap (ranges_of p) top (h.at -ℤ pos 1))))
            (Plain (next_pc g linked p (k + 1)))) in
            prologue_fails rs ws (words ++ w ∷ []) (k + 1 + 1) want (2 * length rs + 1) q code.1.1 reads2 at1
            h2
            short2 (λ j lt. mays j (omega (arith, one, lt))) (omega arith))
            le1
            )
      ]
