-- The checks of a procedure's parameters, over the whole list.
use Rattle.source_laws.proofs.Refined.{World, Way, Registers, handed as handed_registers}
use Rattle.source_laws.proofs.Refined.{single as single_registers, first_mark, rest_marks, taken_marks, Comp}
use Rattle.source_laws.proofs.Refined.{ends}
use Rattle.template_runs.proofs.Offers.{Live, At, Placed, Code, next_pc, stop, Here, Free, is_half}
use Rattle.template_runs.proofs.Offers.{fail_pc_law, at_fail, half_goes, half_fails, half_tested, Away}
use Rattle.template_runs.proofs.Offers.{with_reg, set_law, Stand, guarded, words_in, free_t2, free_a0}
use Rattle.template_runs.proofs.Offers.{free_a1, free_a2, free_a3, none_fits, zero_more}
use Rattle.source_laws.proofs.Upto.{upto, failing as failing_runs, UpTo, spend}
use Rattle.std.proofs.Common.{◌≡◌, ◌≢◌, ◌⊎◌, inl, inr, ℕ, zero, suc, ◌+◌, ◌-◌, ◌<◌, ◌≤◌, ℤ, pos, List}
use Rattle.std.proofs.Common.{[], ◌∷◌, ◌++◌, length, map, replicate, Option, Some, None, Bool, true, false}
use Rattle.std.proofs.Common.{refl, sym, ap, ◌∙◌, subst, arith}
use Rattle.std.specs.Prelude.{slice_get, ◌&&◌, if◌then◌else◌}
use Rattle.cap_words.specs.declared.Word.{Word}
use Rattle.cap_words.specs.declared.Word.TheVariants.{Int, Mem, Seal, Sealed}
use Rattle.cap_words.specs.declared.Sealable.{Sealable}
use Rattle.cap_words.specs.declared.Sealable.TheVariants.{Mem as MemIn, Seal as SealIn}
use Rattle.cap_words.specs.Linear.{is_linear}
use Rattle.lcm_isa.specs.declared.Reg.TheVariants.{Rcode, Rdata, T1, T2}
use Rattle.lcm_isa.specs.declared.Operand.TheVariants.{Imm}
use Rattle.lcm_isa.specs.declared.Instr.TheVariants.{Fail, Move, Plus}
use Rattle.lcm_machine.specs.declared.FailCause.{FailCause}
use Rattle.lcm_machine.specs.declared.FailCause.TheVariants.{F6, F9}
use Rattle.lcm_machine.specs.Maps.{Regs}
use Rattle.lcm_machine.specs.Places.{reg}
use Rattle.lcm_machine.specs.Table.{fits_64, ask, need}
use Rattle.lcm_machine.specs.Row.{row, failed, plan_in, pc_at}
use Rattle.lcm_machine.proofs.Offers.{cases_reg, shows, plus_goes, set_goes}
use Rattle.linked_starts.specs.Parts.{PartSeen}
use Rattle.overlay_machine.specs.declared.words.OWord.{OWord}
use Rattle.overlay_machine.specs.declared.words.OWord.TheVariants.{Plain, RetCode, RetData}
use Rattle.overlay_machine.specs.Words.{look}
use Rattle.overlay_machine.specs.State.{OpenFrame, OState}
use Rattle.overlay_machine.specs.Link.{Link, IsTrusted}
use Rattle.overlay_machine.specs.Linked.{IsLink}
use Rattle.proc_semantics.specs.declared.value.Target.{Target}
use Rattle.proc_semantics.specs.declared.value.Pair.{Pair}
use Rattle.source_events.specs.declared.End.TheVariants.{Fail as Fails}
use Rattle.proc_semantics.specs.declared.value.Value.{Value}
use Rattle.proc_semantics.specs.declared.value.Value.TheVariants.{Num, Closure, Other}
use Rattle.proc_semantics.specs.declared.value.Register.{Register}
use Rattle.proc_semantics.specs.Values.{register_of, first_of, rest_of}
use Rattle.proc_templates.specs.Items.{Item}
use Rattle.proc_templates.specs.Templates.{argument, check_half, check_params}
use Rattle.source_laws.proofs.Handed.{places, handed, then_hold, number_first, pair_first}
use Rattle.source_laws.proofs.Arguments.{Holding, with_other, with_same, argument_spare}
use Rattle.source_laws.proofs.Callings.{IsPair, Passed, no_more, one_more, two_more, filled, filled_is}
use Rattle.run_lines.specs.Feed.{integer_in}

-- of words that hold an integer
plain_number : (x : OWord) (v : ℤ) → integer_in (look x) ≡ Some v → (x ≡ Plain (Int v)) × (fits_64 v ≡ true)
plain_number (Plain (Int z)) v e = by (fits_64 z) refl e
  where
    by : (b : Bool) → fits_64 z ≡ b → (if b then Some z else None) ≡ Some v → (Plain (Int z) ≡ Plain (Int v))
        × (fits_64 v ≡ true)
    by true f e = let s : z ≡ v = cc in (ap (λ y. Plain (Int y)) s, ap fits_64 (sym s) ∙ f)
    by false f e = absurd cc
plain_number (Plain (Mem c)) v e = absurd cc
plain_number (Plain (Seal c)) v e = absurd cc
plain_number (Plain (Sealed n x)) v e = absurd cc
plain_number (RetCode i) v e = absurd cc
plain_number (RetData k) v e = absurd cc

-- of halves
record Sealing (w : Word) : Type 0 where
  seal : ℕ
  inner : Sealable
  is : w ≡ Sealed seal inner
  normal : is_linear (Sealed seal inner) ≡ false

sealed_of : (w : Word) → is_half w ≡ true → Sealing w
sealed_of (Int z) e = absurd cc
sealed_of (Mem c) e = absurd cc
sealed_of (Seal c) e = absurd cc
sealed_of (Sealed s x) e = record { seal = s; inner = x; is = refl; normal = by (is_linear (Sealed s x)) e }
  where
    by : (b : Bool) → (if b then false else true) ≡ true → b ≡ false
    by true h = cc
    by false h = refl

module _ (g : Link) (linked : IsLink g) (Begins : Target → PartSeen → ℕ → Type 0) where
  -- ---- what registers hold

  -- a register's pair, as its word and the next one show it
  abbrev pub PairIs : Option Pair → OWord → OWord → Type 0
  PairIs (Some r) x y = IsPair g linked Begins r x y
  PairIs None x y = (is_half (look x) && is_half (look y)) ≡ false

  abbrev pub first_word : List OWord → OWord
  first_word [] = Plain (Int (pos 0))
  first_word (x ∷ xs) = x

  -- words of registers that untrusted code set, each by itself
  pub data Fed : List Register → List OWord → Type 0 where
    fed_none : Fed [] []
    fed : (r : Register) (x : OWord) {rs : List Register} {ws : List OWord} → r.number ≡ integer_in (look x)
        → PairIs r.pair x (first_word ws) → Fed rs ws → Fed (r ∷ rs) (x ∷ ws)

  -- words of registers, and their marks; those that procedures hand over are numbers, and two that are a
  -- pair; 0 after the last one
  pub data RegsFrom : List Register → List (Option OWord) → List OWord → Type 0 where
    nothing_more : (k : ℕ) → RegsFrom [] [] (replicate k (Plain (Int (pos 0))))
    numbered : (v : ℤ) {rs : List Register} {ms : List (Option OWord)} {ws : List OWord} → fits_64 v ≡ true
        → RegsFrom rs ms ws → RegsFrom (register_of (Num v) ∷ rs) (None ∷ ms) (Plain (Int v) ∷ ws)
    together : (r : Pair) (x y : OWord) {rs : List Register} {ms : List (Option OWord)} {ws : List OWord}
        → IsPair g linked Begins r x y → RegsFrom rs ms ws
        → RegsFrom (register_of (Closure r) ∷ register_of Other ∷ rs) (Some x ∷ Some y ∷ ms) (x ∷ y ∷ ws)
    all_fed : {rs : List Register} {ws : List OWord} → Fed rs ws → RegsFrom rs (map (λ x. Some x) ws) ws

  abbrev pub RegsAre : Registers → OState → Type 0
  RegsAre rs o = RegsFrom rs.registers rs.words
      (o.maps.regs.a0 ∷ o.maps.regs.a1 ∷ o.maps.regs.a2 ∷ o.maps.regs.a3 ∷ [])

  -- values that are handed over are what the registers hold
  passed_regs : (vs : List Value) (ms : List (Option OWord)) (ws : List OWord) (k : ℕ)
      → Passed g linked Begins vs ms ws
      → RegsFrom (map register_of vs) ms (ws ++ replicate k (Plain (Int (pos 0))))
  passed_regs _ _ _ k no_more = nothing_more k
  passed_regs _ _ _ k (one_more v {vs} {ms} {ws} fit h) = numbered v fit (passed_regs vs ms ws k h)
  passed_regs _ _ _ k (two_more r x y {vs} {ms} {ws} i h) = together r x y i (passed_regs vs ms ws k h)

  passes_as : (vs : List Value) (ms : List (Option OWord)) (ws : List OWord) (q : OState)
      → Passed g linked Begins vs ms ws → length ws ≤ 4 → Holding (filled g linked Begins ws) q
      → RegsFrom (map register_of vs) ms
      (q.maps.regs.a0 ∷ q.maps.regs.a1 ∷ q.maps.regs.a2 ∷ q.maps.regs.a3 ∷ [])
  passes_as vs ms ws q h few hold =
      subst (RegsFrom (map register_of vs) ms) (filled_is g linked Begins ws q few hold)
      (passed_regs vs ms ws (4 - length ws) h)

  pub passes : (world : World) (wy : Way) (vs : List Value) (ws : List OWord) (q : OState)
      → Passed g linked Begins vs wy.words ws → length ws ≤ 4
      → Holding (filled g linked Begins ws) q → RegsAre (handed_registers world wy vs) q
  passes world wy vs ws q h few hold = passes_as vs wy.words ws q h few hold

  pub single : (world : World) (v : ℤ) (q : OState) → q.maps.regs.a0 ≡ Plain (Int v) → fits_64 v ≡ true
      → q.maps.regs.a1 ≡ Plain (Int (pos 0)) → q.maps.regs.a2 ≡ Plain (Int (pos 0))
      → q.maps.regs.a3 ≡ Plain (Int (pos 0)) → RegsAre (single_registers world v) q
  single world v q e0 fit e1 e2 e3 =
      passes_as (Num v ∷ []) (None ∷ []) (Plain (Int v) ∷ []) q (one_more v fit no_more) (omega arith) hold
    where
      hold : Holding (filled g linked Begins (Plain (Int v) ∷ [])) q
      hold zero x e = let s : Plain (Int v) ≡ x = cc in e0 ∙ s
      hold (suc zero) x e = let s : Plain (Int (pos 0)) ≡ x = cc in e1 ∙ s
      hold (suc (suc zero)) x e = let s : Plain (Int (pos 0)) ≡ x = cc in e2 ∙ s
      hold (suc (suc (suc zero))) x e = let s : Plain (Int (pos 0)) ≡ x = cc in e3 ∙ s
      hold (suc (suc (suc (suc j)))) x e = cc

argument_keeps : (i : ℕ) (rs : Regs OWord) (x y : OWord)
    → reg (record rs { pc = x; t1 = y }) (argument i) ≡ reg rs (argument i)
argument_keeps zero rs x y = refl
argument_keeps (suc zero) rs x y = refl
argument_keeps (suc (suc zero)) rs x y = refl
argument_keeps (suc (suc (suc zero))) rs x y = refl
argument_keeps (suc (suc (suc (suc i)))) rs x y = refl

argument_stays : (i : ℕ) (rs : Regs OWord) (x y : OWord)
    → reg (record rs { pc = x; t2 = y }) (argument i) ≡ reg rs (argument i)
argument_stays zero rs x y = refl
argument_stays (suc zero) rs x y = refl
argument_stays (suc (suc zero)) rs x y = refl
argument_stays (suc (suc (suc zero))) rs x y = refl
argument_stays (suc (suc (suc (suc i)))) rs x y = refl

module _ (g : Link) (linked : IsLink g) (p : PartSeen) (ip : IsTrusted g p)
    (failing : Placed g linked p 0 Fail) (top : ℕ) (fs : List OpenFrame) (end n : ℕ) (m : Comp)
    (mem : ℕ → OWord) (ows : List OState) (lv : Live) where
  abbrev Inside : OState → Type 0
  Inside o = Here g linked p 0 top [] mem fs o

  argument_free : (i : ℕ) → Free g linked (argument i)
  argument_free zero = free_a0 g linked
  argument_free (suc zero) = free_a1 g linked
  argument_free (suc (suc zero)) = free_a2 g linked
  argument_free (suc (suc (suc zero))) = free_a3 g linked
  argument_free (suc (suc (suc (suc i)))) = free_a3 g linked

  -- what checks keep
  pub record Same (q r : OState) : Type 0 where
    pub args : (j : ℕ) → reg r.maps.regs (argument j) ≡ reg q.maps.regs (argument j)
    pub code : r.maps.regs.rcode ≡ q.maps.regs.rcode
    pub half : r.maps.regs.rdata ≡ q.maps.regs.rdata
    pub t1 : r.maps.regs.t1 ≡ Plain (Int (pos 0))

  -- ---- a number

  module _ (k c i : ℕ) (q : OState)
      (code : Placed g linked p k (Plus (argument i) (argument i) (Imm (pos 0)))) (at : At g linked p k q)
      (h : Inside q) where
    not_number : (w : Word) → look (reg q.maps.regs (argument i)) ≡ w → integer_in w ≡ None → (f : FailCause)
        × (row look Plain (Plus (argument i) (argument i) (Imm (pos 0))) (next_pc g linked p k)
        q.maps ≡ failed f (pc_at look q.maps))
    unfolding row plan_in ask need
    not_number (Int z) e s = (
      F9,
      rw (
        (argument_free i).no_pc,
        shows look Plain q.maps (argument i) (Int z) e,
        zero_more z,
        none_fits (fits_64 z) z s,
      ) refl,
    )
    not_number (Mem x) e s =
        (F6, rw ((argument_free i).no_pc, shows look Plain q.maps (argument i) (Mem x) e) refl)
    not_number (Seal x) e s =
        (F6, rw ((argument_free i).no_pc, shows look Plain q.maps (argument i) (Seal x) e) refl)
    not_number (Sealed z (MemIn x)) e s =
        (F6, rw ((argument_free i).no_pc, shows look Plain q.maps (argument i) (Sealed z (MemIn x)) e) refl)
    not_number (Sealed z (SealIn x)) e s =
        (F6, rw ((argument_free i).no_pc, shows look Plain q.maps (argument i) (Sealed z (SealIn x)) e) refl)

    number_fails : (x : OWord) → reg q.maps.regs (argument i) ≡ x → integer_in (look x) ≡ None → 1 ≤ c
        → UpTo g ows lv n c q (ends Fails)
    number_fails x e s le = let f = not_number (look x) (ap look e) s in
        stop g linked p k (Plus (argument i) (argument i) (Imm (pos 0))) q h.valid at code refl
        (failing_runs g ows lv n) c f.0 _ f.1 le

    number_goes : (b : ℕ) (v : ℤ) → i < 4 → reg q.maps.regs (argument i) ≡ Plain (Int v) → fits_64 v ≡ true
        → q.maps.regs.t1 ≡ Plain (Int (pos 0))
        → ((r : OState) → Inside r → At g linked p (k + 1) r → Same q r → UpTo g ows lv n b r m) → 1 + b ≤ c
        → UpTo g ows lv n c q m
    number_goes b v small e fit t1 u le =
        set_law g linked p ip 0 top fs k (upto g ows lv n m) c b [] mem q (pos p.component.data_base)
        (Plus (argument i) (argument i) (Imm (pos 0))) (argument i) (Plain (Int v)) (argument_free i) refl
        code at h
        (plus_goes look Plain (argument i) (argument i) (Imm (pos 0)) _ q.maps v (pos 0) v
        (argument_free i).no_pc (ap look e) refl (zero_more v) fit) (λ h1 at1.
        u (with_reg q (argument i) (Plain (Int v)) (next_pc g linked p k))
        h1 at1 (same i small e)) le
      where
        same : (i : ℕ) → i < 4 → reg q.maps.regs (argument i) ≡ Plain (Int v)
            → Same q (with_reg q (argument i) (Plain (Int v)) (next_pc g linked p k))
        same i lt e = record {
          args = by i e;
          code = with_other q (argument i) (Plain (Int v)) (next_pc g linked p k) Rcode
              (λ x. cc) (rcode_is i);
          half = with_other q (argument i) (Plain (Int v)) (next_pc g linked p k) Rdata
              (λ x. cc) (rdata_is i);
          t1 = with_other q (argument i) (Plain (Int v)) (next_pc g linked p k) T1 (λ x. cc) (t1_is i)
              ∙ t1;
        }
          where
            rcode_is : (i : ℕ) → Rcode ≢ argument i
            rcode_is zero = λ e. cc
            rcode_is (suc zero) = λ e. cc
            rcode_is (suc (suc zero)) = λ e. cc
            rcode_is (suc (suc (suc zero))) = λ e. cc
            rcode_is (suc (suc (suc (suc i)))) = λ e. cc

            rdata_is : (i : ℕ) → Rdata ≢ argument i
            rdata_is zero = λ e. cc
            rdata_is (suc zero) = λ e. cc
            rdata_is (suc (suc zero)) = λ e. cc
            rdata_is (suc (suc (suc zero))) = λ e. cc
            rdata_is (suc (suc (suc (suc i)))) = λ e. cc

            t1_is : (i : ℕ) → T1 ≢ argument i
            t1_is zero = λ e. cc
            t1_is (suc zero) = λ e. cc
            t1_is (suc (suc zero)) = λ e. cc
            t1_is (suc (suc (suc zero))) = λ e. cc
            t1_is (suc (suc (suc (suc i)))) = λ e. cc

            by : (i : ℕ) → reg q.maps.regs (argument i) ≡ Plain (Int v) → (j : ℕ)
                → reg (with_reg q (argument i) (Plain (Int v)) (next_pc g linked p k)).maps.regs
                (argument j) ≡ reg q.maps.regs (argument j)
            by i e j = elim (cases_reg (argument j) (argument i)) as (λ _. reg
                (with_reg q (argument i) (Plain (Int v)) (next_pc g linked p k)).maps.regs (argument j) ≡ reg
                q.maps.regs (argument j)) [
                  | inl s ↦ ap (reg (with_reg q (argument i) (Plain (Int v))
                      (next_pc g linked p k)).maps.regs) s
                      ∙ with_same q (argument i) (Plain (Int v)) (next_pc g linked p k) (argument_spare i).0
                      ∙ sym e ∙ ap (reg q.maps.regs) (sym s)
                  | inr ne ↦ with_other q (argument i) (Plain (Int v)) (next_pc g linked p k) (argument j)
                      (argument_spare j).0 ne
                ]

  -- ---- a callback

  module _ (k i : ℕ) (q : OState)
      (code : Code g linked p k
      (guarded g linked p 0 k (check_half (argument i) ++ check_half (argument (i + 1)))))
      (at : At g linked p k q) (h : Inside q) where
    abbrev Q1 : OState
    Q1 = at_fail g linked p 0 failing q k

    abbrev Q2 : OState
    Q2 = half_tested g linked p 0 failing Q1 (k + 1 + 1)

    abbrev Q3 : OState
    Q3 = half_tested g linked p 0 failing Q2 (k + 1 + 1 + 1 + 1 + 1 + 1 + 1)

    first_code : Code g linked p (k + 1 + 1) (check_half (argument i))
    first_code = (code.1.1.0, (code.1.1.1.0, (code.1.1.1.1.0, (code.1.1.1.1.1.0, (code.1.1.1.1.1.1.0, tt)))))

    second_code : Code g linked p (k + 1 + 1 + 1 + 1 + 1 + 1 + 1) (check_half (argument (i + 1)))
    second_code = (
      code.1.1.1.1.1.1.1.0,
      (
        code.1.1.1.1.1.1.1.1.0,
        (code.1.1.1.1.1.1.1.1.1.0, (code.1.1.1.1.1.1.1.1.1.1.0, (code.1.1.1.1.1.1.1.1.1.1.1.0, tt))),
      ),
    )

    at1_is : (j : ℕ) → reg Q1.maps.regs (argument j) ≡ reg q.maps.regs (argument j)
    at1_is j = argument_stays j q.maps.regs _ _

    at2_is : (j : ℕ) → reg Q2.maps.regs (argument j) ≡ reg q.maps.regs (argument j)
    at2_is j = argument_keeps j Q1.maps.regs _ _ ∙ at1_is j

    at3_is : (j : ℕ) → reg Q3.maps.regs (argument j) ≡ reg q.maps.regs (argument j)
    at3_is j = argument_keeps j Q2.maps.regs _ _ ∙ at2_is j

    pair_goes : (c b : ℕ) → is_half (look (reg q.maps.regs (argument i))) ≡ true
        → is_half (look (reg q.maps.regs (argument (i + 1)))) ≡ true
        → ((r : OState) → Inside r → At g linked p (k + 13) r → Same q r → UpTo g ows lv n b r m) → 13 + b ≤ c
        → UpTo g ows lv n c q m
    pair_goes c b e1 e2 u le =
        let a = sealed_of (look (reg q.maps.regs (argument i))) e1 in
        let d = sealed_of (look (reg q.maps.regs (argument (i + 1)))) e2 in
        let le1 : 2 + (11 + b) ≤ c = omega (arith, le) in
        let e13 : k + 1 + 1 + 1 + 1 + 1 + 1 + 1 + 1 + 1 + 1 + 1 + 1 + 1 ≡ k + 13 = omega arith in
        fail_pc_law g linked p 0 failing (upto g ows lv n m) k c (11 + b) q ip h.valid at
        (code.0, (code.1.0, tt)) (λ v1 at1.
        half_goes g linked p 0 failing (argument i) (argument_keeps i) (k + 1 + 1) Q1 v1 at1 first_code refl
        (upto g ows lv n m) (11 + b) (6 + b) a.seal a.inner (ap look (at1_is i) ∙ a.is) a.normal
        (λ v2 at2.
        half_goes g linked p 0 failing (argument (i + 1)) (argument_keeps (i + 1))
        (k + 1 + 1 + 1 + 1 + 1 + 1 + 1) Q2 v2 at2 second_code refl (upto g ows lv n m) (6 + b) (1 + b)
        d.seal d.inner (ap look (at2_is (i + 1)) ∙ d.is) d.normal (λ v3 at3.
        let h3 : Away g linked p ip 0 top fs (pos p.component.data_base) [] mem Q3 =
        record {
          valid = v3;
          at = h.at;
          stk = h.stk;
          cursor = h.cursor;
          dat = h.dat;
          slots = h.slots;
          fit = h.fit;
          globs = h.globs;
          frames = h.frames;
          low = h.low;
          high = h.high;
          free = h.free;
        } in
        let kl = k + 1 + 1 + 1 + 1 + 1 + 1 + 1 + 1 + 1 + 1 + 1 + 1 in
        let q4 = with_reg Q3 T2 (Plain (Int (pos 0))) (next_pc g linked p kl) in
        set_law g linked p ip 0 top fs kl (upto g ows lv n m) (1 + b) b [] mem Q3 (pos p.component.data_base)
        (Move T2 (Imm (pos 0))) T2 (Plain (Int (pos 0))) (free_t2 g linked) refl
        code.1.1.1.1.1.1.1.1.1.1.1.1.0 at3 h3 (set_goes look Plain T2 (pos 0) _ Q3.maps refl) (λ h4 at4.
        u q4 h4 (subst (λ y. At g linked p y q4) e13 at4)
        (record {
          args = λ j. argument_stays j Q3.maps.regs _ _ ∙ at3_is j;
          code = refl;
          half = refl;
          t1 = refl;
        })) (omega arith)) (omega arith)) (omega arith)) le1

    pair_fails : (c : ℕ)
        → (is_half (look (reg q.maps.regs (argument i))) && is_half
        (look (reg q.maps.regs (argument (i + 1))))) ≡ false → 13 ≤ c → UpTo g ows lv n c q (ends Fails)
    pair_fails c bad le = by (is_half (look (reg q.maps.regs (argument i)))) refl
      where
        by : (t : Bool) → is_half (look (reg q.maps.regs (argument i))) ≡ t → UpTo g ows lv n c q (ends Fails)
        by false e =
            let le1 : 2 + 11 ≤ c = omega (arith, le) in
            fail_pc_law g linked p 0 failing (upto g ows lv n (ends Fails)) k c 11 q ip h.valid at
            (code.0, (code.1.0, tt)) (λ v1 at1.
            half_fails g linked p 0 failing (argument i) (argument_keeps i) (k + 1 + 1) Q1 v1 at1 first_code
            refl (failing_runs g ows lv n) 11 (look (reg q.maps.regs (argument i))) (ap look (at1_is i)) e
            (omega arith)) le1
        by true e =
            let a = sealed_of (look (reg q.maps.regs (argument i))) e in
            let e2 : is_half (look (reg q.maps.regs (argument (i + 1)))) ≡ false =
            ap (λ z. z && is_half (look (reg q.maps.regs (argument (i + 1))))) (sym e) ∙ bad in
            let le1 : 2 + 11 ≤ c = omega (arith, le) in
            fail_pc_law g linked p 0 failing (upto g ows lv n (ends Fails)) k c 11 q ip h.valid at
            (code.0, (code.1.0, tt)) (λ v1 at1.
            half_goes g linked p 0 failing (argument i) (argument_keeps i) (k + 1 + 1) Q1 v1 at1 first_code
            refl (upto g ows lv n (ends Fails)) 11 6 a.seal a.inner (ap look (at1_is i) ∙ a.is) a.normal
            (λ v2 at2.
            half_fails g linked p 0 failing (argument (i + 1)) (argument_keeps (i + 1))
            (k + 1 + 1 + 1 + 1 + 1 + 1 + 1) Q2 v2 at2 second_code refl (failing_runs g ows lv n) 6
            (look (reg q.maps.regs (argument (i + 1)))) (ap look (at2_is (i + 1))) e2 (omega arith))
            (omega arith)) le1

-- ---- the whole list

hold_split : (v : Value) (o : Option (List Value)) (env : List Value) → then_hold v o ≡ Some env
    → (rest : List Value) × (o ≡ Some rest) × (env ≡ v ∷ rest)
hold_split v None env e = absurd cc
hold_split v (Some vs) env e = (vs, refl, (let s : v ∷ vs ≡ env = cc in sym s))

hold_none : (v : Value) (o : Option (List Value)) → then_hold v o ≡ None → o ≡ None
hold_none v None e = refl
hold_none v (Some vs) e = absurd cc

none_some : (env : List Value) → None ≡ Some env → ⊥
none_some env e = cc

module _ (g : Link) (linked : IsLink g) (Begins : Target → PartSeen → ℕ → Type 0) where
  abbrev Regs' : List Register → List (Option OWord) → List OWord → Type 0
  Regs' = RegsFrom g linked Begins

  record NumberHere (rs : List Register) (ms : List (Option OWord)) (ws : List OWord) : Type 0 where
    value : ℤ
    behind : List OWord
    is : ws ≡ Plain (Int value) ∷ behind
    number : (first_of rs).number ≡ Some value
    fits : fits_64 value ≡ true
    rest : Regs' (rest_of rs) (rest_marks ms) behind

  record NoNumber (rs : List Register) (ws : List OWord) : Type 0 where
    word : OWord
    behind : List OWord
    is : ws ≡ word ∷ behind
    number : (first_of rs).number ≡ None
    none : integer_in (look word) ≡ None

  number_view : (rs : List Register) (ms : List (Option OWord)) (ws : List OWord) → Regs' rs ms ws
      → 1 ≤ length ws
      → NumberHere rs ms ws
      ⊎ NoNumber rs ws
  number_view _ _ _ (nothing_more zero) le = absurd (omega (arith, le))
  number_view _ _ _ (nothing_more (suc k)) le =
      inl (record {
        value = pos 0;
        behind = replicate k (Plain (Int (pos 0)));
        is = refl;
        number = refl;
        fits = refl;
        rest = nothing_more k;
      })
  number_view _ _ _ (numbered v {rs} {ms} {ws} fit h) le =
      inl (record { value = v; behind = ws; is = refl; number = refl; fits = fit; rest = h })
  number_view _ _ _ (together r x y {rs} {ms} {ws} i h) le =
      inr (record { word = x; behind = y ∷ ws; is = refl; number = refl; none = i.called.first.no_number })
  number_view _ _ _ (all_fed fed_none) le = absurd (omega (arith, le))
  number_view _ _ _ (all_fed (fed r x {rs} {ws} e pr h)) le = by (integer_in (look x)) refl
    where
      by : (o : Option ℤ) → integer_in (look x) ≡ o
          → NumberHere (r ∷ rs) (Some x ∷ map (λ x. Some x) ws) (x ∷ ws)
          ⊎ NoNumber (r ∷ rs) (x ∷ ws)
      by None i = inr (record { word = x; behind = ws; is = refl; number = e ∙ i; none = i })
      by (Some v) i = let q = plain_number x v i in
          inl (record {
            value = v;
            behind = ws;
            is = ap (λ y. y ∷ ws) q.0;
            number = e ∙ i;
            fits = q.1;
            rest = all_fed h;
          })

  record PairThere (rs : List Register) (ms : List (Option OWord)) (ws : List OWord) : Type 0 where
    value : Pair
    first : OWord
    second : OWord
    behind : List OWord
    is : ws ≡ first ∷ second ∷ behind
    pair : (first_of rs).pair ≡ Some value
    means : IsPair g linked Begins value first second
    marked : first_mark ms ≡ Some first
    marked_too : first_mark (rest_marks ms) ≡ Some second
    rest : Regs' (rest_of (rest_of rs)) (rest_marks (rest_marks ms)) behind

  record NoPair (rs : List Register) (ws : List OWord) : Type 0 where
    first : OWord
    second : OWord
    behind : List OWord
    is : ws ≡ first ∷ second ∷ behind
    pair : (first_of rs).pair ≡ None
    none : (is_half (look first) && is_half (look second)) ≡ false

  pair_view : (rs : List Register) (ms : List (Option OWord)) (ws : List OWord) → Regs' rs ms ws
      → 2 ≤ length ws
      → PairThere rs ms ws
      ⊎ NoPair rs ws
  pair_view _ _ _ (nothing_more zero) le = absurd (omega (arith, le))
  pair_view _ _ _ (nothing_more (suc zero)) le = absurd (omega (arith, le))
  pair_view _ _ _ (nothing_more (suc (suc k))) le =
      inr (record {
        first = Plain (Int (pos 0));
        second = Plain (Int (pos 0));
        behind = replicate k (Plain (Int (pos 0)));
        is = refl;
        pair = refl;
        none = refl;
      })
  pair_view _ _ _ (numbered v {rs} {ms} {ws} fit h) le = by ws le
    where
      by : (ws : List OWord) → 2 ≤ length (Plain (Int v) ∷ ws)
          → PairThere (register_of (Num v) ∷ rs) (None ∷ ms) (Plain (Int v) ∷ ws)
          ⊎ NoPair (register_of (Num v) ∷ rs) (Plain (Int v) ∷ ws)
      by [] le = absurd (omega (arith, le))
      by (y ∷ ws) le = inr
          (record { first = Plain (Int v); second = y; behind = ws; is = refl; pair = refl; none = refl })
  pair_view _ _ _ (together r x y {rs} {ms} {ws} i h) le =
      inl (record {
        value = r;
        first = x;
        second = y;
        behind = ws;
        is = refl;
        pair = refl;
        means = i;
        marked = refl;
        marked_too = refl;
        rest = h;
      })
  pair_view _ _ _ (all_fed fed_none) le = absurd (omega (arith, le))
  pair_view _ _ _ (all_fed (fed r x e pr fed_none)) le = absurd (omega (arith, le))
  pair_view _ _ _ (all_fed (fed r x e pr (fed r2 y {rs} {ws} e2 pr2 h))) le = by r.pair refl pr
    where
      by : (o : Option Pair) → r.pair ≡ o → PairIs g linked Begins r.pair x y
          → PairThere (r ∷ r2 ∷ rs) (Some x ∷ Some y ∷ map (λ x. Some x) ws) (x ∷ y ∷ ws)
          ⊎ NoPair (r ∷ r2 ∷ rs) (x ∷ y ∷ ws)
      by None i q = inr (record {
        first = x;
        second = y;
        behind = ws;
        is = refl;
        pair = i;
        none = subst (λ z. PairIs g linked Begins z x y) i q;
      })
      by (Some v) i q = inl
          (record {
            value = v;
            first = x;
            second = y;
            behind = ws;
            is = refl;
            pair = i;
            means = subst (λ z. PairIs g linked Begins z x y) i q;
            marked = refl;
            marked_too = refl;
            rest = all_fed h;
          })

  module _ (p : PartSeen) (ip : IsTrusted g p) (failing : Placed g linked p 0 Fail) (top : ℕ)
      (fs : List OpenFrame) (end n : ℕ) (mem : ℕ → OWord) (ows : List OState) (lv : Live) where
    abbrev Within : OState → Type 0
    Within o = Here g linked p 0 top [] mem fs o

    -- words in the registers of arguments from one on
    abbrev pub Held : ℕ → List OWord → OState → Type 0
    Held i ws q = (j : ℕ) (x : OWord) → slice_get ws j ≡ Some x → reg q.maps.regs (argument (i + j)) ≡ x

    abbrev Checks : ℕ → List Bool → List Item
    Checks = check_params

    same_then : (m : Comp) (q r s : OState) → Same g linked p ip failing top fs end n m mem ows lv q r
        → Same g linked p ip failing top fs end n m mem ows lv r s
        → Same g linked p ip failing top fs end n m mem ows lv q s
    same_then m q r s a b =
        record { args = λ j. b.args j ∙ a.args j; code = b.code ∙ a.code; half = b.half ∙ a.half; t1 = b.t1 }

    held_behind : (i d : ℕ) (front ws xs : List OWord) (q r : OState) → length front ≡ d → ws ≡ front ++ xs
        → Held i ws q → ((j : ℕ) → reg r.maps.regs (argument j) ≡ reg q.maps.regs (argument j))
        → Held (i + d) xs r
    held_behind i d front ws xs q r len is h same j x e =
        let z : i + d + j ≡ i + (length front + j) = omega (arith, len) in
        ap (λ y. reg r.maps.regs (argument y)) z ∙ same (i + (length front + j))
        ∙ h (length front + j) x (ap (λ y. slice_get y (length front + j)) is ∙ get_behind front xs j ∙ e)
      where
        get_behind : (front xs : List OWord) (j : ℕ)
            → slice_get (front ++ xs) (length front + j) ≡ slice_get xs j
        get_behind [] xs j = let z : 0 + j ≡ j = omega arith in ap (slice_get xs) z
        get_behind (w ∷ front) xs j = let z : length (w ∷ front) + j ≡ suc (length front + j) = omega arith in
            ap (slice_get (w ∷ front ++ xs)) z ∙ get_behind front xs j

    at_first : (i : ℕ) (ws : List OWord) (x : OWord) (xs : List OWord) (q : OState) → ws ≡ x ∷ xs
        → Held i ws q → reg q.maps.regs (argument i) ≡ x
    at_first i ws x xs q is h = let z : i ≡ i + 0 = omega arith in ap (λ y. reg q.maps.regs (argument y)) z
        ∙ h 0 x (ap (λ y. slice_get y 0) is)

    at_second : (i : ℕ) (ws : List OWord) (x y : OWord) (xs : List OWord) (q : OState) → ws ≡ x ∷ y ∷ xs
        → Held i ws q → reg q.maps.regs (argument (i + 1)) ≡ y
    at_second i ws x y xs q is h = h 1 y (ap (λ z. slice_get z 1) is)

    -- some parameter doesn't find what it needs
    pub checks_fail : (bs : List Bool) (i k c : ℕ) (rs : List Register) (ms : List (Option OWord))
        (ws : List OWord) (q : OState)
        → Regs' rs ms ws → i + length ws ≡ 4 → i + places bs ≤ 4 → Held i ws q
        → Stand g linked p end k (Checks i bs) → Within q → At g linked p k q
        → q.maps.regs.t1 ≡ Plain (Int (pos 0))
        → handed bs rs ≡ None → words_in (Checks i bs) ≤ c → UpTo g ows lv n c q (ends Fails)
    checks_fail [] i k c rs ms ws q regs four few held code h at t1 e le = absurd cc
    checks_fail (false ∷ bs) i k c rs ms ws q regs four few held code h at t1 e le =
        elim (number_view rs ms ws regs (omega (arith, four, few))) as
        (λ _. UpTo g ows lv n c q (ends Fails)) [
          | inl v ↦ (
              let len = ap length v.is in
              let le1 : 1 + words_in (Checks (i + 1) bs) ≤ c = omega (arith, le) in
              let none : handed bs (rest_of rs) ≡ None =
              hold_none (Num v.value) (handed bs (rest_of rs))
              (sym (ap (λ y. number_first y (handed bs (rest_of rs))) v.number) ∙ e) in
              number_goes g linked p ip failing top fs end n (ends Fails) mem ows lv k c i q code.0 at h
              (words_in (Checks (i + 1) bs)) v.value (omega (arith, few))
              (at_first i ws (Plain (Int v.value)) v.behind q v.is held) v.fits t1 (λ r h1 at1 same.
              checks_fail bs (i + 1) (k + 1) (words_in (Checks (i + 1) bs)) (rest_of rs) (rest_marks ms)
              v.behind r v.rest
              (omega (arith, four, len)) (omega (arith, few))
              (held_behind i 1 (Plain (Int v.value) ∷ []) ws v.behind q r refl v.is held same.args) code.1 h1
              at1 same.t1 none (omega arith)) le1
              )
          | inr x ↦ number_fails g linked p ip failing top fs end n (ends Fails) mem ows lv k c
              i q code.0 at h
              x.word
              (at_first i ws x.word x.behind q x.is held) x.none (omega (arith, le))
        ]
    checks_fail (true ∷ bs) i k c rs ms ws q regs four few held code h at t1 e le =
        elim (pair_view rs ms ws regs (omega (arith, four, few))) as (λ _. UpTo g ows lv n c q (ends Fails)) [
          | inl v ↦ (
              let len = ap length v.is in
              let le1 : 13 + words_in (Checks (i + 2) bs) ≤ c = omega (arith, le) in
              let e1 = at_first i ws v.first (v.second ∷ v.behind) q v.is held in
              let e2 = at_second i ws v.first v.second v.behind q v.is held in
              let none1 : then_hold Other (handed bs (rest_of (rest_of rs))) ≡ None =
              hold_none (Closure v.value) (then_hold Other (handed bs (rest_of (rest_of rs))))
              (sym (ap (λ y. pair_first y (handed bs (rest_of (rest_of rs)))) v.pair) ∙ e) in
              let none : handed bs (rest_of (rest_of rs)) ≡ None =
              hold_none Other (handed bs (rest_of (rest_of rs))) none1 in
              pair_goes g linked p ip failing top fs end n (ends Fails) mem ows lv k i q code.0 at h c
              (words_in (Checks (i + 2) bs)) (ap (λ y. is_half (look y)) e1 ∙ v.means.called.first.sealed)
              (ap (λ y. is_half (look y)) e2 ∙ v.means.called.second.sealed) (λ r h1 at1 same.
              checks_fail bs (i + 2) (k + 13) (words_in (Checks (i + 2) bs)) (rest_of (rest_of rs))
              (rest_marks (rest_marks ms)) v.behind r
              v.rest (omega (arith, four, len)) (omega (arith, few))
              (held_behind i 2 (v.first ∷ v.second ∷ []) ws v.behind q r refl v.is held same.args) code.1 h1
              at1 same.t1 none (omega arith)) le1
              )
          | inr x ↦ (
              let e1 = at_first i ws x.first (x.second ∷ x.behind) q x.is held in
              let e2 = at_second i ws x.first x.second x.behind q x.is held in
              pair_fails g linked p ip failing top fs end n (ends Fails) mem ows lv k i q code.0 at h c
              (ap (λ y. is_half (look y) && is_half (look (reg q.maps.regs (argument (i + 1))))) e1
              ∙ ap (λ y. is_half (look x.first) && is_half (look y)) e2 ∙ x.none) (omega (arith, le))
              )
        ]

    -- all find what they need
    pub checks_go : (m : Comp) (bs : List Bool) (i k c b : ℕ) (rs : List Register) (ms : List (Option OWord))
        (ws : List OWord)
        (env : List Value) (q : OState) → Regs' rs ms ws → i + length ws ≡ 4 → i + places bs ≤ 4 → Held i ws q
        → Stand g linked p end k (Checks i bs) → Within q → At g linked p k q
        → q.maps.regs.t1 ≡ Plain (Int (pos 0))
        → handed bs rs ≡ Some env → words_in (Checks i bs) + b ≤ c
        → ((xs : List OWord) (r : OState) → Passed g linked Begins env (taken_marks bs ms) xs
        → length xs ≡ places bs
        → Held i xs r → Within r → At g linked p (k + words_in (Checks i bs)) r
        → Same g linked p ip failing top fs end n m mem ows lv q r → UpTo g ows lv n b r m)
        → UpTo g ows lv n c q m
    checks_go m [] i k c b rs ms ws env q regs four few held code h at t1 e le u =
        let z : k ≡ k + 0 = omega arith in
        let s : [] ≡ env = cc in
        spend g n b c q m (omega (arith, le))
        (u [] q (subst (λ y. Passed g linked Begins y [] []) s no_more) refl
        (λ j x e. cc) h (subst (λ y. At g linked p y q) z at)
        (record { args = λ j. refl; code = refl; half = refl; t1 = t1 }))
    checks_go m (false ∷ bs) i k c b rs ms ws env q regs four few held code h at t1 e le u =
        elim (number_view rs ms ws regs (omega (arith, four, few))) as (λ _. UpTo g ows lv n c q m) [
          | inl v ↦ (
              let len = ap length v.is in
              let le1 : 1 + (words_in (Checks (i + 1) bs) + b) ≤ c = omega (arith, le) in
              let sp = hold_split (Num v.value) (handed bs (rest_of rs)) env
              (sym (ap (λ y. number_first y (handed bs (rest_of rs))) v.number) ∙ e) in
              let e0 = at_first i ws (Plain (Int v.value)) v.behind q v.is held in
              number_goes g linked p ip failing top fs end n m mem ows lv k c i q code.0 at h
              (words_in (Checks (i + 1) bs) + b) v.value (omega (arith, few)) e0 v.fits t1 (λ r h1 at1 same.
              checks_go m bs (i + 1) (k + 1) (words_in (Checks (i + 1) bs) + b) b (rest_of rs) (rest_marks ms)
              v.behind sp.0 r
              v.rest (omega (arith, four, len)) (omega (arith, few))
              (held_behind i 1 (Plain (Int v.value) ∷ []) ws v.behind q r refl v.is held same.args) code.1 h1
              at1 same.t1 sp.1 (omega arith) (λ xs r2 ps lx held2 h2 at2 same2.
              let e2 : k + 1 + words_in (Checks (i + 1) bs) ≡ k + words_in (Checks i (false ∷ bs)) =
              omega arith in
              u (Plain (Int v.value) ∷ xs) r2
              (subst (λ y. Passed g linked Begins y (taken_marks (false ∷ bs) ms)
              (Plain (Int v.value) ∷ xs)) (sym sp.2)
              (one_more v.value v.fits ps)) (omega (arith, lx))
              (held_one i (Plain (Int v.value)) xs r2 (same2.args i ∙ same.args i ∙ e0) held2) h2
              (subst (λ y. At g linked p y r2) e2 at2) (same_then m q r r2 same same2))) le1
              )
          | inr x ↦ absurd (none_some env
              (sym (ap (λ y. number_first y (handed bs (rest_of rs))) x.number) ∙ e))
        ]
      where
        held_one : (i : ℕ) (x : OWord) (xs : List OWord) (r : OState) → reg r.maps.regs (argument i) ≡ x
            → Held (i + 1) xs r → Held i (x ∷ xs) r
        held_one i x xs r e h zero y is = let z : i + 0 ≡ i = omega arith in let s : x ≡ y = cc in
            ap (λ a. reg r.maps.regs (argument a)) z ∙ e ∙ s
        held_one i x xs r e h (suc j) y is = let z : i + suc j ≡ i + 1 + j = omega arith in
            ap (λ a. reg r.maps.regs (argument a)) z ∙ h j y is
    checks_go m (true ∷ bs) i k c b rs ms ws env q regs four few held code h at t1 e le u =
        elim (pair_view rs ms ws regs (omega (arith, four, few))) as (λ _. UpTo g ows lv n c q m) [
          | inl v ↦ (
              let len = ap length v.is in
              let le1 : 13 + (words_in (Checks (i + 2) bs) + b) ≤ c = omega (arith, le) in
              let e1 = at_first i ws v.first (v.second ∷ v.behind) q v.is held in
              let e2 = at_second i ws v.first v.second v.behind q v.is held in
              let sp1 = hold_split (Closure v.value) (then_hold Other (handed bs (rest_of (rest_of rs)))) env
              (sym (ap (λ y. pair_first y (handed bs (rest_of (rest_of rs)))) v.pair) ∙ e) in
              let sp2 = hold_split Other (handed bs (rest_of (rest_of rs))) sp1.0 sp1.1 in
              let env_is : env ≡ Closure v.value ∷ Other ∷ sp2.0 = sp1.2
              ∙ ap (λ y. Closure v.value ∷ y) sp2.2 in
              pair_goes g linked p ip failing top fs end n m mem ows lv k i q code.0 at h c
              (words_in (Checks (i + 2) bs) + b) (ap (λ y. is_half (look y)) e1 ∙ v.means.called.first.sealed)
              (ap (λ y. is_half (look y)) e2 ∙ v.means.called.second.sealed) (λ r h1 at1 same.
              checks_go m bs (i + 2) (k + 13) (words_in (Checks (i + 2) bs) + b) b (rest_of (rest_of rs))
              (rest_marks (rest_marks ms))
              v.behind
              sp2.0 r v.rest (omega (arith, four, len)) (omega (arith, few))
              (held_behind i 2 (v.first ∷ v.second ∷ []) ws v.behind q r refl v.is held same.args) code.1 h1
              at1 same.t1 sp2.1 (omega arith) (λ xs r2 ps lx held2 h2 at2 same2.
              let e3 : k + 13 + words_in (Checks (i + 2) bs) ≡ k + words_in (Checks i (true ∷ bs)) =
              omega arith in
              u (v.first ∷ v.second ∷ xs) r2
              (subst (λ a. Passed g linked Begins a (taken_marks (true ∷ bs) ms) (v.first ∷ v.second ∷ xs))
              (sym env_is)
              (subst (λ a. Passed g linked Begins (Closure v.value ∷ Other ∷ sp2.0)
              (a ∷ first_mark (rest_marks ms) ∷ taken_marks bs (rest_marks (rest_marks ms)))
              (v.first ∷ v.second ∷ xs)) (sym v.marked)
              (subst (λ a. Passed g linked Begins (Closure v.value ∷ Other ∷ sp2.0)
              (Some v.first ∷ a ∷ taken_marks bs (rest_marks (rest_marks ms)))
              (v.first ∷ v.second ∷ xs)) (sym v.marked_too)
              (two_more v.value v.first v.second v.means ps)))) (omega (arith, lx))
              (held_two i v.first v.second xs r2 (same2.args i ∙ same.args i ∙ e1)
              (same2.args (i + 1) ∙ same.args (i + 1) ∙ e2) held2) h2 (subst (λ a. At g linked p a r2) e3 at2)
              (same_then m q r r2 same same2))) le1
              )
          | inr x ↦ absurd (none_some env
              (sym (ap (λ y. pair_first y (handed bs (rest_of (rest_of rs)))) x.pair) ∙ e))
        ]
      where
        held_two : (i : ℕ) (x y : OWord) (xs : List OWord) (r : OState) → reg r.maps.regs (argument i) ≡ x
            → reg r.maps.regs (argument (i + 1)) ≡ y → Held (i + 2) xs r → Held i (x ∷ y ∷ xs) r
        held_two i x y xs r e f h zero z is = let a : i + 0 ≡ i = omega arith in let s : x ≡ z = cc in
            ap (λ a. reg r.maps.regs (argument a)) a ∙ e ∙ s
        held_two i x y xs r e f h (suc zero) z is = let s : y ≡ z = cc in f ∙ s
        held_two i x y xs r e f h (suc (suc j)) z is = let a : i + suc (suc j) ≡ i + 2 + j = omega arith in
            ap (λ a. reg r.maps.regs (argument a)) a ∙ h j z is
