-- Runs stay within what the words allow that they begin with.
use Rattle.std.proofs.Common.{◌≡◌, ℕ, zero, suc, true, false, refl, sym, ap, subst, ◌∙◌, arith}
use Rattle.std.specs.Prelude.{Some}
use Rattle.cap_words.specs.declared.Word.{Word}
use Rattle.cap_words.specs.declared.CapFields.{CapFields}
use Rattle.cap_words.specs.declared.SealFields.{SealFields}
use Rattle.cap_words.specs.declared.Opened.{Opened}
use Rattle.cap_words.specs.declared.Perm.{Perm}
use Rattle.cap_words.specs.declared.Perm.TheVariants.{No, R as ReadOnly, Rw, Rx, Rwx}
use Rattle.cap_words.specs.declared.Face.TheVariants.{Memory, Seals}
use Rattle.cap_words.specs.Faces.{may_read, may_run, may_write, memory_in, seals_in}
use Rattle.lcm_isa.specs.declared.Reg.{Reg}
use Rattle.lcm_isa.specs.declared.Instr.{Instr}
use Rattle.lcm_isa.specs.declared.Instr.TheVariants.{Load, Store, Xjmp}
use Rattle.lcm_machine.specs.Maps.{State}
use Rattle.lcm_machine.specs.Places.{reg}
use Rattle.lcm_machine.specs.Cells.{cell}
use Rattle.lcm_machine.specs.Closed.{AllAre, OpensTo}
use Rattle.lcm_machine.specs.Table.{unsealed}
use Rattle.lcm_machine.specs.Touched.{cell_used}
use Rattle.lcm_machine.specs.Row.{Outcome, went, halted, failed, faces, cell_faces, opens, step_of}
use Rattle.lcm_machine.specs.Runs.{and_then, run_of}
use Rattle.lcm_machine.specs.Acts.{IsNext, GoesTo, JumpsUnder, May, MaySeal}
use Rattle.lcm_machine.proofs.Offers.{step_keeps, look_memory, look_seals, after_went, does_as_it_may}
use Rattle.lcm_machine.proofs.Offers.{writes_where_it_may}
use Rattle.authority_report.specs.Within.{Authority, CapWithin, SealsWithin, IsWithin}
use Rattle.authority_report.specs.Bounds.{ActsWithin, KeepsUnwritten, plain_run, StaysIn, RunsWithin}
use Rattle.authority_report.specs.Bounds.{IsBounded}
use Rattle.authority_report.proofs.WithinClosed.{within_closed, mem_within, opened_within, content_within}

pub writes_read : (q : Perm) → may_write q ≡ true → may_read q ≡ true
writes_read No e = cc
writes_read ReadOnly e = refl
writes_read Rw e = refl
writes_read Rx e = refl
writes_read Rwx e = refl

abbrev Goes : State Word → State Word → Type 0
Goes s t = GoesTo (λ w. w) (λ w. w) s t

abbrev Jumps : State Word → ℕ → Type 0
Jumps s n = JumpsUnder (λ w. w) (λ w. w) s n

module _ (g : Authority) (s : State Word) (h : IsBounded g s) where
  -- a register that shows a capability
  shown : (r : Reg) (c : CapFields) → faces (λ w. w) s r ≡ Memory c → CapWithin g c
  unfolding faces
  shown r c e = mem_within g (reg s.regs r) c (look_memory (reg s.regs r) c (ap memory_in e)) (h.regs r)

  shown_seals : (r : Reg) (q : SealFields) → faces (λ w. w) s r ≡ Seals q → SealsWithin g q
  unfolding faces
  shown_seals r q e = subst (IsWithin g) (look_seals (reg s.regs r) q (ap seals_in e)) (h.regs r)

  -- what words of registers let, the authority allows
  pub reads : (a : ℕ) → May may_read (λ w. w) s a → g.read a ≡ true
  reads a (r, (c, is, may, low, high)) = (shown r c is).read may a low high

  writes : (a : ℕ) → May may_write (λ w. w) s a → g.write a ≡ true
  writes a (r, (c, is, may, low, high)) = (shown r c is).write may a low high

  runs : (a : ℕ) → May may_run (λ w. w) s a → g.run a ≡ true
  runs a (r, (c, is, may, low, high)) = (shown r c is).run may a low high

  reads_written : (a : ℕ) → May may_write (λ w. w) s a → g.read a ≡ true
  reads_written a (r, (c, is, may, low, high)) = (shown r c is).read (writes_read c.perm may) a low high

  seals : (n : ℕ) → MaySeal (λ w. w) s n → g.seal n ≡ true
  seals n (r, q, is, low, high) = shown_seals r q is n low high

  -- ---- what one step does

  pub does_on : ActsWithin g s
  does_on =
      let d = does_as_it_may (λ w. w) (λ w. w) s in
      record {
        fetches = λ a f. runs a (d.fetches a f);
        loads = λ a l. reads a (d.loads a l);
        stores = λ a l. writes a (d.stores a l);
        empties = λ a l. writes a (d.empties a l);
        seals = λ n l. seals n (d.seals n l);
      }

  pub keeps_on : (t : State Word) → Goes s t → KeepsUnwritten g s t
  keeps_on t e a out = writes_where_it_may (λ w. w) (λ w. w) s t a e (λ may.
      let f : true ≡ false = sym (writes a may) ∙ out in
      cc)

  -- ---- and what it leaves

  -- an instruction uses cells only that may be read
  pub used : (i : Instr) → IsNext (λ w. w) s i → (a : ℕ)
      → cell_used i (faces (λ w. w) s) (cell_faces (λ w. w) s) ≡ Some a → g.read a ≡ true
  used (Load r1 r2) next a e = does_on.loads a (r1, r2, (next, e))
  used (Store r1 r2) next a e =
      reads_written a ((does_as_it_may (λ w. w) (λ w. w) s).stores a (r1, r2, (next, e)))
  used _ next a e = cc

  opened_at : (r : Reg) (o : Opened) → opens (λ w. w) s r ≡ Some o → g.own o.seal ≡ true
      → IsWithin g (unsealed o.content)
  unfolding opens
  opened_at r o e own = opened_within g (reg s.regs r) o e (h.regs r) own

  module _ (t : State Word) (e : Goes s t) (own : (n : ℕ) → Jumps s n → g.own n ≡ true) where
    opens_to : (i : Instr) → IsNext (λ w. w) s i → OpensTo (λ w. w) (λ w. w) (IsWithin g) s i
    opens_to (Xjmp r1 r2) next = λ code half c o1 o2 same m.
        let mine = own code.seal (r1, r2, next, code, o1, refl, t, e) in (
          content_within g code.content c m (opened_at r1 code o1 mine),
          opened_at r2 half o2 (ap g.own (sym same) ∙ mine),
        )
    opens_to _ next = tt

    pub holds_on : IsBounded g t
    holds_on =
        let all = after_went (AllAre (IsWithin g) (λ a. g.read a ≡ true)) _ t
        (step_keeps (λ w. w) (λ w. w) (IsWithin g) (λ a. g.read a ≡ true) (within_closed g) s
        (h.regs, λ a w r c. h.cells a w r c)
        (λ i next f. (opens_to i (next, f), λ a u. used i (next, f) a u))) e in
        record { regs = all.0; cells = λ a w r c. all.1 a w r c }

-- ---- runs

module _ (g : Authority) where
  pub stays_next : (n : ℕ) (s t : State Word) → Goes s t → StaysIn g.own (suc n) s → StaysIn g.own n t
  unfolding run_of
  stays_next n s t e stays k u seal lt run jumps =
      stays (suc k) u seal (omega (arith, lt)) (ap (λ o. and_then o (plain_run k)) e ∙ run) jumps

  pub stays_here : (n : ℕ) (s : State Word) → StaysIn g.own (suc n) s → (seal : ℕ) → Jumps s seal
      → g.own seal ≡ true
  unfolding run_of
  stays_here n s stays seal jumps = stays 0 s seal (omega arith) refl jumps

  along : (n : ℕ) (s t : State Word) → IsBounded g s → plain_run n s ≡ went t → StaysIn g.own n s
      → IsBounded g t × KeepsUnwritten g s t
  unfolding run_of
  along zero s t h e stays =
      let same : s ≡ t = cc in
      (subst (IsBounded g) same h, λ a out. ap (λ (u : State Word). cell u.cells a) (sym same))
  along (suc n) s t h e stays = by_step (λ u. along n u t) (step_of (λ w. w) (λ w. w) s) refl e
    where
      by_step : ((u : State Word) → IsBounded g u → plain_run n u ≡ went t → StaysIn g.own n u
          → IsBounded g t × KeepsUnwritten g u t)
          → (o : Outcome Word) → step_of (λ w. w) (λ w. w) s ≡ o → and_then o (plain_run n) ≡ went t
          → IsBounded g t × KeepsUnwritten g s t
      by_step on halted is r = cc
      by_step on (failed c at) is r = cc
      by_step on (went u) is r =
          let k = on u (holds_on g s h u is (stays_here n s stays)) r (stays_next n s u is stays) in
          (k.0, λ a out. k.1 a out ∙ keeps_on g s h u is a out)

  pub runs_within : (s : State Word) → IsBounded g s → RunsWithin g s
  runs_within s h n t r stays =
      let k = along n s t h r stays in
      record {
        does = does_on g t k.0;
        keeps = k.1;
        keeps_next = λ u goes a out. keeps_on g t k.0 u goes a out ∙ k.1 a out;
      }
