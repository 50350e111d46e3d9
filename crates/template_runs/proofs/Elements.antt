-- An element of an array: its index tested, the data register at it and back.
use Rattle.std.proofs.Common.{◌≡◌, ℕ, ◌+◌, ◌<◌, ◌≤◌, ℤ, pos, negsuc, ◌+ℤ◌, ◌-ℤ◌, List, [], ◌∷◌, length, true}
use Rattle.std.proofs.Common.{false, refl, ap, ◌∙◌, subst, arith, lt-ltb, le-ltb}
use Rattle.std.specs.Prelude.{int_lt}
use Rattle.std.proofs.lemmas.Int.{ints}
use Rattle.cap_words.specs.declared.Word.TheVariants.{Int, Mem}
use Rattle.cap_words.specs.Linear.{is_linear}
use Rattle.lcm_isa.specs.declared.Reg.TheVariants.{Pc, Dat, T2, G0, G1, G2}
use Rattle.lcm_isa.specs.declared.Operand.TheVariants.{R as InReg, Imm}
use Rattle.lcm_isa.specs.declared.Instr.{Instr}
use Rattle.lcm_isa.specs.declared.Instr.TheVariants.{Fail, Move, Cca, Lt, Plus, Minus, Jnz}
use Rattle.lcm_machine.specs.declared.Place.TheVariants.{R}
use Rattle.lcm_machine.specs.Table.{fits_64, is_zero, bit}
use Rattle.lcm_machine.specs.Row.{put}
use Rattle.lcm_machine.proofs.Offers.{stays, set_goes, lt_goes, plus_goes, minus_goes, number_in, jnz_goes}
use Rattle.lcm_machine.proofs.Offers.{jnz_jumps}
use Rattle.call_sequence.specs.Holds.{code_at}
use Rattle.linked_starts.specs.Parts.{PartSeen}
use Rattle.overlay_machine.specs.declared.words.OWord.{OWord}
use Rattle.overlay_machine.specs.declared.words.OWord.TheVariants.{Plain}
use Rattle.overlay_machine.specs.Words.{look}
use Rattle.overlay_machine.specs.State.{OpenFrame, OState}
use Rattle.overlay_machine.specs.Link.{Link, IsTrusted, ranges_of, data_region}
use Rattle.overlay_machine.specs.Linked.{IsLink}
use Rattle.template_runs.proofs.Numbers.{fits_small, fits_less}
use Rattle.proc_templates.specs.Items.{zero_of}
use Rattle.template_runs.specs.Runs.{RunsOn, Failing}
use Rattle.template_runs.proofs.Valid.{Valid}
use Rattle.template_runs.proofs.Steps.{At, Placed, Code, next_pc, go_to}
use Rattle.template_runs.proofs.Rows.{moved}
use Rattle.template_runs.proofs.Checks.{fail_law, fail_pc_law, at_fail}
use Rattle.template_runs.proofs.Data.{Away, with_reg, set_law, skip_law, dat_law, skipped}
use Rattle.template_runs.proofs.Standing.{guarded}
pub use Rattle.template_runs.proofs.Rows.{free_g0, free_g1, free_g2, free_t2, free_a0, free_a1, free_a2}
pub use Rattle.template_runs.proofs.Rows.{free_a3, free_c1, free_c2}

-- the tests of an index
abbrev pub index_tests : ℕ → List Instr
index_tests length =
    Lt G1 G0 (Imm (pos 0)) ∷ Jnz T2 G1
    ∷ Lt G1 G0 (Imm (pos length)) ∷ Minus G1 G1 (Imm (pos 1)) ∷ Jnz T2 G1 ∷ []

module _ (g : Link) (linked : IsLink g) where
  module _ (p : PartSeen) (ip : IsTrusted g p) (w top : ℕ) (fs : List OpenFrame) where
    abbrev Away' : ℤ → List OWord → (ℕ → OWord) → OState → Type 0
    Away' = Away g linked p ip w top fs

    module _ (failing : Placed g linked p 0 Fail) (length : ℕ) where
      -- the test of g1, with t2 the pc of the `fail`
      trap_law : (want : Failing g.layout) (k c : ℕ) (z : ℤ) (o : OState) → Valid g linked o
          → At g linked p k o
          → Placed g linked p k (Jnz T2 G1) → o.maps.regs.t2 ≡ Plain (Mem (code_at (ranges_of p) 0))
          → o.maps.regs.g1 ≡ Plain (Int z) → is_zero z ≡ false → 2 ≤ c → want.runs.Good c o
      trap_law want k c z o v at code t2 g1 nz le =
          let less : 1 + 1 ≤ c = omega (arith, le) in
          let one : 1 ≤ 1 = omega arith in
          let s = put o.maps (R Pc) o.maps.regs.t2 in
          want.runs.spend (1 + 1) c o less
          (go_to g linked p k (Jnz T2 G1) o v at code refl want.runs 1 0 s
          (jnz_jumps look Plain T2 G1 _ o.maps o.maps z (ap look g1) nz
          (stays look Plain o.maps (R T2) (ap (λ x. is_linear (look x)) t2))) (ap look t2) refl
          (λ v1 at1. fail_law g linked p 0 failing want (record o { maps = s }) 1 v1 at1 one))

      abbrev at_test : OState → ℕ → OState
      at_test o k = at_fail g linked p 0 failing o k

      test_away : (k : ℕ) (words : List OWord) (mem : ℕ → OWord) (o : OState) (z : ℤ) → Away' z words mem o
          → Valid g linked (at_test o k) → Away' z words mem (at_test o k)
      test_away k words mem o z h v = moved g linked h v h.stk h.dat refl refl

      abbrev after_lt : OState → ℕ → ℤ → OState
      after_lt o k y = with_reg o G1 (Plain (Int y)) (next_pc g linked p k)

      -- after the first test
      abbrev after_first : OState → ℕ → ℤ → OState
      after_first o k x = after_lt (at_test o k) (k + 1 + 1) (bit (int_lt x (pos 0)))

      -- the words up to the first jump of the test
      first_test : (want : RunsOn g.layout) (k c b : ℕ) (x : ℤ) (words : List OWord) (mem : ℕ → OWord)
          (o : OState)
          (z : ℤ) → Code g linked p k (guarded g linked p 0 k (index_tests length)) → At g linked p k o
          → Away' z words mem o → o.maps.regs.g0 ≡ Plain (Int x)
          → (Away' z words mem (after_first o k x) → At g linked p (k + 1 + 1 + 1) (after_first o k x)
          → want.Good b (after_first o k x))
          → 3 + b ≤ c → want.Good c o
      first_test want k c b x words mem o z code at h e u le =
          let le1 : 2 + (1 + b) ≤ c = omega (arith, le) in
          let le2 : 1 + b ≤ 1 + b = omega arith in
          fail_pc_law g linked p 0 failing want k c (1 + b) o ip h.valid at (code.0, (code.1.0, tt))
          (λ v1 at1.
          set_law g linked p ip w top fs (k + 1 + 1) want (1 + b) b words mem (at_test o k) z
          (Lt G1 G0 (Imm (pos 0))) G1 (Plain (Int (bit (int_lt x (pos 0))))) (free_g1 g linked) refl
          code.1.1.0 at1
          (test_away k words mem o z h v1)
          (lt_goes look Plain G1 G0 (Imm (pos 0)) _ (at_test o k).maps x (pos 0) refl (ap look e) refl) u le2)
          le1

      not_below : (i : ℕ) → int_lt (pos i) (pos 0) ≡ false
      not_below i = le-ltb i 0 (omega arith)

      second_test : (want : RunsOn g.layout) (k c b i : ℕ) (words : List OWord) (mem : ℕ → OWord) (o : OState)
          (z : ℤ)
          → Code g linked p k (guarded g linked p 0 k (index_tests length)) → At g linked p k o
          → Away' z words mem o → o.maps.regs.g0 ≡ Plain (Int (pos i))
          → ((q : OState) → q.maps.regs.g1 ≡ Plain (Int (bit (int_lt (pos i) (pos length))))
          → q.maps.regs.t2 ≡ Plain (Mem (code_at (ranges_of p) 0)) → q.maps.regs.g0 ≡ Plain (Int (pos i))
          → q.maps.regs.a0 ≡ o.maps.regs.a0 → Away' z words mem q
          → At g linked p (k + 1 + 1 + 1 + 1 + 1) q → want.Good b q)
          → 5 + b ≤ c → want.Good c o
      second_test want k c b i words mem o z code at h e u le =
          first_test want k c (2 + b) (pos i) words mem o z code at h e (λ h1 at1.
          let s1 = after_first o k (pos i) in
          let zero_is : is_zero (bit (int_lt (pos i) (pos 0))) ≡ true =
          ap (λ y. is_zero (bit y)) (not_below i) in
          let le4 : 1 + (1 + b) ≤ 2 + b = omega arith in
          let le5 : 1 + b ≤ 1 + b = omega arith in
          let s2 = skipped g linked p ip w top fs (k + 1 + 1 + 1) s1 in
          skip_law g linked p ip w top fs (k + 1 + 1 + 1) want (2 + b) (1 + b) words mem s1 z (Jnz T2 G1) refl
          code.1.1.1.0 at1 h1 (jnz_goes look Plain T2 G1 _ s1.maps (bit (int_lt (pos i) (pos 0))) refl
          zero_is)
          (λ h2 at2.
          set_law g linked p ip w top fs (k + 1 + 1 + 1 + 1) want (1 + b) b words mem s2 z
          (Lt G1 G0 (Imm (pos length))) G1 (Plain (Int (bit (int_lt (pos i) (pos length)))))
          (free_g1 g linked) refl
          code.1.1.1.1.0 at2 h2
          (lt_goes look Plain G1 G0 (Imm (pos length)) _ s2.maps (pos i) (pos length) refl (ap look e) refl)
          (λ h3 at3. u _ refl refl e refl h3 at3) le5) le4) (omega (arith, le))

      -- an index within the array
      pub index_goes : (want : RunsOn g.layout) (k c b i : ℕ) (words : List OWord) (mem : ℕ → OWord)
          (o : OState)
          (z : ℤ) → Code g linked p k (guarded g linked p 0 k (index_tests length)) → At g linked p k o
          → Away' z words mem o → o.maps.regs.g0 ≡ Plain (Int (pos i)) → i < length
          → ((q : OState) → Away' z words mem q → At g linked p (k + 8) q
          → q.maps.regs.g0 ≡ Plain (Int (pos i))
          → q.maps.regs.a0 ≡ o.maps.regs.a0 → want.Good b q)
          → 8 + b ≤ c → want.Good c o
      index_goes want k c b i words mem o z code at h e lt u le =
          second_test want k c (3 + b) i words mem o z code at h e (λ s3 g1 t2 g0 a0 h3 at3.
          let one : bit (int_lt (pos i) (pos length)) ≡ pos 1 = ap bit (lt-ltb i length lt) in
          let le6 : 1 + (2 + b) ≤ 3 + b = omega arith in
          let le7 : 1 + (1 + b) ≤ 2 + b = omega arith in
          let le8 : 1 + b ≤ 1 + b = omega arith in
          let s4 = with_reg s3 G1 (Plain (Int (pos 0))) (next_pc g linked p (k + 1 + 1 + 1 + 1 + 1)) in
          let s5 = skipped g linked p ip w top fs (k + 1 + 1 + 1 + 1 + 1 + 1) s4 in
          let s6 = with_reg s5 T2 (Plain (Int (pos 0)))
          (next_pc g linked p (k + 1 + 1 + 1 + 1 + 1 + 1 + 1)) in
          let e8 : k + 1 + 1 + 1 + 1 + 1 + 1 + 1 + 1 ≡ k + 8 = omega arith in
          set_law g linked p ip w top fs (k + 1 + 1 + 1 + 1 + 1) want (3 + b) (2 + b) words mem s3 z
          (Minus G1 G1 (Imm (pos 1))) G1 (Plain (Int (pos 0))) (free_g1 g linked) refl code.1.1.1.1.1.0 at3 h3
          (minus_goes look Plain G1 G1 (Imm (pos 1)) _ s3.maps (pos 1) (pos 1) (pos 0) refl
          (ap look g1 ∙ ap Int one) refl refl refl) (λ h4 at4.
          skip_law g linked p ip w top fs (k + 1 + 1 + 1 + 1 + 1 + 1) want (2 + b) (1 + b) words mem s4 z
          (Jnz T2 G1)
          refl code.1.1.1.1.1.1.0 at4 h4 (jnz_goes look Plain T2 G1 _ s4.maps (pos 0) refl refl) (λ h5 at5.
          set_law g linked p ip w top fs (k + 1 + 1 + 1 + 1 + 1 + 1 + 1) want (1 + b) b words mem s5 z
          (Move T2 (Imm (pos 0))) T2 (Plain (Int (pos 0))) (free_t2 g linked) refl code.1.1.1.1.1.1.1.0 at5 h5
          (set_goes look Plain T2 (pos 0) _ s5.maps refl)
          (λ h6 at6. u s6 h6 (subst (λ y. At g linked p y s6) e8 at6) g0 a0) le8) le7) le6)
          (omega (arith, le))

      -- a number below 0, and one that is past the array
      pub below_fails : (want : Failing g.layout) (k c i : ℕ) (words : List OWord) (mem : ℕ → OWord)
          (o : OState)
          (z : ℤ) → Code g linked p k (guarded g linked p 0 k (index_tests length)) → At g linked p k o
          → Away' z words mem o → o.maps.regs.g0 ≡ Plain (Int (negsuc i)) → 8 ≤ c → want.runs.Good c o
      below_fails want k c i words mem o z code at h e le =
          first_test want.runs k c 2 (negsuc i) words mem o z code at h e (λ h1 at1.
          trap_law want (k + 1 + 1 + 1) 2 (pos 1) _ h1.valid at1 code.1.1.1.0 refl refl refl (omega arith))
          (omega (arith, le))

      pub past_fails : (want : Failing g.layout) (k c i : ℕ) (words : List OWord) (mem : ℕ → OWord)
          (o : OState)
          (z : ℤ) → Code g linked p k (guarded g linked p 0 k (index_tests length)) → At g linked p k o
          → Away' z words mem o → o.maps.regs.g0 ≡ Plain (Int (pos i)) → length ≤ i → 8 ≤ c
          → want.runs.Good c o
      past_fails want k c i words mem o z code at h e ge le =
          second_test want.runs k c 3 i words mem o z code at h e (λ s3 g1 t2 g0 a0 h3 at3.
          let none : bit (int_lt (pos i) (pos length)) ≡ pos 0 = ap bit (le-ltb i length ge) in
          let le6 : 1 + 2 ≤ 3 = omega arith in
          let s4 = with_reg s3 G1 (Plain (Int (negsuc 0))) (next_pc g linked p (k + 1 + 1 + 1 + 1 + 1)) in
          set_law g linked p ip w top fs (k + 1 + 1 + 1 + 1 + 1) want.runs 3 2 words mem s3 z
          (Minus G1 G1 (Imm (pos 1))) G1 (Plain (Int (negsuc 0))) (free_g1 g linked) refl code.1.1.1.1.1.0 at3
          h3
          (minus_goes look Plain G1 G1 (Imm (pos 1)) _ s3.maps (pos 0) (pos 1) (negsuc 0) refl
          (ap look g1 ∙ ap Int none) refl refl refl) (λ h4 at4.
          trap_law want (k + 1 + 1 + 1 + 1 + 1 + 1) 2 (negsuc 0) s4 h4.valid at4 code.1.1.1.1.1.1.0 t2 refl
          refl
          (omega arith)) le6)
          (omega (arith, le))

    -- ---- the data register at the element, whose index is in g0, of an array from an offset on

    module _ (first : ℕ) (words : List OWord) (mem : ℕ → OWord) where
      pub to_element : (want : RunsOn g.layout) (k c b i : ℕ) (o : OState)
          → Placed g linked p k (Plus G0 G0 (Imm (pos (first))))
          → Placed g linked p (k + 1) (Cca Dat (InReg G0)) → At g linked p k o
          → Away' (pos p.component.data_base) words mem o → o.maps.regs.g0 ≡ Plain (Int (pos i))
          → first + i < length p.component.data_words
          → ((q : OState) → Away' (pos (p.component.data_base + (first + i))) words mem q
          → At g linked p (k + 1 + 1) q → q.maps.regs.g0 ≡ Plain (Int (pos (first + i)))
          → q.maps.regs.a0 ≡ o.maps.regs.a0 → want.Good b q)
          → 2 + b ≤ c → want.Good c o
      to_element want k c b i o code1 code2 at h e lt u le =
          let d = first + i in
          let small = linked.small (data_region p) (linked.data_there p ip) in
          let ha : p.component.data_base + (first + i) ≤ (ranges_of p).data_last = omega (arith, lt) in
          let fit_d : fits_64 (pos (first + i)) ≡ true = fits_small (first + i) (omega (arith, ha, small)) in
          let fit_a : fits_64 (pos (p.component.data_base + (first + i))) ≡ true =
          fits_small (p.component.data_base + (first + i)) (omega (arith, ha, small)) in
          let sum : pos i +ℤ pos (first) ≡ pos (first + i) = omega (arith, ints) in
          let sum2 : pos p.component.data_base +ℤ pos (first + i) ≡ pos (p.component.data_base + (first + i))
          = refl in
          let s1 = with_reg o G0 (Plain (Int (pos (first + i)))) (next_pc g linked p k) in
          let le1 : 1 + (1 + b) ≤ c = omega (arith, le) in
          let le2 : 1 + b ≤ 1 + b = omega arith in
          set_law g linked p ip w top fs k want c (1 + b) words mem o (pos p.component.data_base)
          (Plus G0 G0 (Imm (pos (first)))) G0 (Plain (Int (pos (first + i)))) (free_g0 g linked) refl code1 at
          h
          (plus_goes look Plain G0 G0 (Imm (pos (first))) _ o.maps (pos i) (pos (first)) (pos (first + i))
          refl (ap look e) refl sum fit_d) (λ h1 at1.
          dat_law g linked p ip w top fs (k + 1) want (1 + b) b words mem s1 (pos p.component.data_base)
          (pos (first + i)) (pos (p.component.data_base + (first + i))) (InReg G0) code2 at1 h1
          (number_in look Plain s1.maps G0 (pos (first + i)) refl) sum2 fit_a
          (λ h2 at2. u _ h2 at2 refl refl) le2) le1

      -- and back, where g0 is its offset
      pub from_element : (want : RunsOn g.layout) (k c b d : ℕ) (o : OState) → Placed g linked p k
          (zero_of G2)
          → Placed g linked p (k + 1) (Minus G2 G2 (InReg G0))
          → Placed g linked p (k + 1 + 1) (Cca Dat (InReg G2)) → At g linked p k o
          → Away' (pos (p.component.data_base + d)) words mem o → o.maps.regs.g0 ≡ Plain (Int (pos d))
          → d < length p.component.data_words
          → ((q : OState) → Away' (pos p.component.data_base) words mem q → At g linked p (k + 1 + 1 + 1) q
          → q.maps.regs.g1 ≡ o.maps.regs.g1 → want.Good b q)
          → 3 + b ≤ c → want.Good c o
      from_element want k c b d o code1 code2 code3 at h e lt u le =
          let small = linked.small (data_region p) (linked.data_there p ip) in
          let ha : p.component.data_base + d ≤ (ranges_of p).data_last = omega (arith, lt) in
          let fit_d : fits_64 (pos 0 -ℤ pos d) ≡ true =
          fits_less 0 d (omega arith) (omega (arith, ha, small)) in
          let fit_a : fits_64 (pos p.component.data_base) ≡ true =
          fits_small p.component.data_base (omega (arith, ha, small)) in
          let back : pos (p.component.data_base + d) +ℤ (pos 0 -ℤ pos d) ≡ pos p.component.data_base =
          omega (arith, ints) in
          let s1 = with_reg o G2 (Plain (Int (pos 0))) (next_pc g linked p k) in
          let s2 = with_reg s1 G2 (Plain (Int (pos 0 -ℤ pos d))) (next_pc g linked p (k + 1)) in
          let le1 : 1 + (2 + b) ≤ c = omega (arith, le) in
          let le2 : 1 + (1 + b) ≤ 2 + b = omega arith in
          let le3 : 1 + b ≤ 1 + b = omega arith in
          set_law g linked p ip w top fs k want c (2 + b) words mem o (pos (p.component.data_base + d))
          (zero_of G2) G2 (Plain (Int (pos 0))) (free_g2 g linked) refl code1 at h
          (set_goes look Plain G2 (pos 0) _ o.maps refl) (λ h1 at1.
          set_law g linked p ip w top fs (k + 1) want (2 + b) (1 + b) words mem s1
          (pos (p.component.data_base + d)) (Minus G2 G2 (InReg G0)) G2 (Plain (Int (pos 0 -ℤ pos d)))
          (free_g2 g linked) refl code2 at1 h1
          (minus_goes look Plain G2 G2 (InReg G0) _ s1.maps (pos 0) (pos d) (pos 0 -ℤ pos d) refl refl
          (number_in look Plain s1.maps G0 (pos d) (ap look e)) refl fit_d) (λ h2 at2.
          dat_law g linked p ip w top fs (k + 1 + 1) want (1 + b) b words mem s2
          (pos (p.component.data_base + d)) (pos 0 -ℤ pos d) (pos p.component.data_base) (InReg G2) code3
          at2 h2 (number_in look Plain s2.maps G2 (pos 0 -ℤ pos d) refl) back fit_a
          (λ h3 at3. u _ h3 at3 refl) le3) le2) le1
