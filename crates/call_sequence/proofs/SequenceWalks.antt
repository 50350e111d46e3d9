-- What the words of the sequences do one by one, whatever comes of them, for words of any kind.
use Rattle.std.proofs.Common.{◌≡◌, ◌≢◌, ◌⊎◌, inl, inr, ℕ, ◌+◌, ◌-◌, ◌<◌, ◌≤◌, ℤ, pos, negsuc, List, []}
use Rattle.std.proofs.Common.{◌∷◌, ◌++◌, Some, None, refl, sym, ap, ◌∙◌, subst, arith, rules, FitsSigned, w32}
use Rattle.std.proofs.Common.{zero, suc, true, false, le-leb}
use Rattle.std.specs.Prelude.{is_some, if◌then◌else◌}
use Rattle.std.proofs.lemmas.Bool.{cases_lt}
use Rattle.cap_words.specs.declared.TheConstants.{LAST_PLACE}
use Rattle.cap_words.specs.declared.Word.{Word}
use Rattle.cap_words.specs.declared.Word.TheVariants.{Int, Mem}
use Rattle.cap_words.specs.declared.CapFields.{CapFields}
use Rattle.cap_words.specs.declared.Face.TheVariants.{Memory}
use Rattle.cap_words.specs.Faces.{may_read, same_kind, target_of}
use Rattle.lcm_isa.specs.declared.Reg.TheVariants.{Pc, Stk, Dat, Rcode, Rdata, T1, T2, C1, C2}
use Rattle.lcm_isa.specs.declared.Operand.TheVariants.{R as InReg, Imm}
use Rattle.lcm_isa.specs.declared.Instr.{Instr}
use Rattle.lcm_isa.specs.declared.Instr.TheVariants.{Store, Move, Cca, Load, Geta, Minus, Split, Cseal, Xjmp}
use Rattle.lcm_isa.specs.declared.Instr.TheVariants.{Jnz, Gettype, Getb, Gete, Getp, Getlin, Seta2b, Splice}
use Rattle.cap_words.specs.Face.{face_of}
use Rattle.cap_words.specs.Linear.{is_linear, lin_is}
use Rattle.lcm_machine.specs.declared.Place.TheVariants.{R}
use Rattle.lcm_machine.specs.Maps.{State}
use Rattle.lcm_machine.specs.Cells.{cell}
use Rattle.lcm_machine.specs.Table.{target}
use Rattle.lcm_machine.specs.Row.{faces, cell_faces, face_there, look_face, put, row, went}
use Rattle.lcm_machine.specs.Runs.{and_then, run_of, Stands, code_cap}
use Rattle.lcm_machine.specs.Refusals.{HasFailed, CannotJoin}
use Rattle.lcm_machine.specs.Touched.{Touches, cell_used, reached, used_by}
use Rattle.lcm_machine.proofs.Offers.{failed_more, fetch_at, covered, is_linear-face, load_goes, row_others}
use Rattle.lcm_machine.proofs.Offers.{run_of-add, set_goes, shows}
use Rattle.call_sequence.specs.declared.TheConstants.{CALL_WORDS, RETURN_WORDS, ENTRY_WORDS}
use Rattle.call_sequence.specs.Sequences.{call_code, return_code, entry_code, distance, load_word, wipe_word}
use Rattle.call_sequence.specs.SequenceRuns.{stack_cap, IsOutsideRange, HasCall, HasReturn, HasEntry}
use Rattle.call_sequence.specs.SequenceWords.{IsInRange, AtWord, CallWords, EntryWords, LoadsOrWipes}
use Rattle.call_sequence.specs.SequenceWords.{ReturnWords, JointReturnWords}
use Rattle.call_sequence.proofs.LawLemmas.{fits_small, small_operand, near_operand, leads}
use Rattle.call_sequence.proofs.ReturnLaws.{tested, return_tests, return_turns, return_apart}
use Rattle.call_sequence.proofs.Passing.{AreIdle, Guards, done, tests, keeps, Passes, passed, word_is, first}
use Rattle.call_sequence.proofs.Passing.{at_fail, idle_first, idle_code, guarded, aimed, stands_kept}
use Rattle.call_sequence.proofs.Passing.{stands_same, target_code}

-- ---- a call

-- what comes after the load of the literal, up to the `xjmp`
abbrev call_rest : ℤ → List Instr
call_rest site =
    Cca T2 (Imm site) ∷ Geta T1 Stk
    ∷ Minus T1 T1 (Imm (pos 1)) ∷ Split Stk Rdata Stk (InReg T1) ∷ Cca Stk (Imm (negsuc 0)) ∷ Cseal Rdata T2
    ∷ Move Rcode (InReg Pc) ∷ Cca Rcode (Imm (pos 6)) ∷ Cseal Rcode T2 ∷ Move T1 (Imm (pos 0))
    ∷ Move T2 (Imm (pos 0)) ∷ []

rest_idle : (site : ℕ) → site ≤ LAST_PLACE → AreIdle (call_rest (pos site))
rest_idle site small = (
  (refl, refl, small_operand site small),
  (
    (refl, refl, tt),
    (
      (refl, refl, (search rules)),
      (
        (refl, refl, tt),
        (
          (refl, refl, (search rules)),
          (
            (refl, refl, tt),
            (
              (refl, refl, tt),
              (
                (refl, refl, (search rules)),
                ((refl, refl, tt), ((refl, refl, (search rules)), ((refl, refl, (search rules)), tt))),
              ),
            ),
          ),
        ),
      ),
    ),
  ),
)

t1_pc : T1 ≢ Pc
t1_pc e = cc

t2_pc : T2 ≢ Pc
t2_pc e = cc

t2_t1 : T2 ≢ T1
t2_t1 e = cc

module _ {W : Type 0} (look : W → Word) (plain : Word → W) (seen : (x : Word) → look (plain x) ≡ x) where
  module _ (s : State W) (base last at seal : ℕ) (c : CapFields) (h : HasCall look s.cells base last at seal)
      (pc : look s.regs.pc ≡ Mem (code_cap base last at)) (stk : look s.regs.stk ≡ Mem c)
      (apart : (a : ℕ) → IsInRange a c.base c.end → IsOutsideRange a base last) where
    abbrev upto : ℕ
    upto = at + (CALL_WORDS - 1)

    abbrev InStack : ℕ → ℕ → Type 0
    InStack word a = IsInRange a c.base c.end

    -- the store goes into stk's range, and so to no word of the code
    stored : (q : ℕ) → target (Store Stk Dat) (faces look s) ≡ Some q → IsInRange q c.base c.end
    stored q e = covered c q (ap target_of (sym (shows look plain s Stk (Mem c) stk)) ∙ e)

    not_code : (q : ℕ) → target (Store Stk Dat) (faces look s) ≡ Some q → base ≤ q → q ≤ last → ⊥
    not_code q e low high =
        elim (apart q (stored q e)) as (λ _. ⊥)
        [ inl y ↦ omega (arith, y, low) | inr y ↦ omega (arith, y, high) ]

    call_passes : Passes look plain seen base last upto InStack at CALL_WORDS s
    unfolding call_code
    call_passes =
        let ai = h.at_is in
        let en = h.ends in
        let sm = h.small in
        let lh = h.literal_in in
        let si = h.seal_is in
        let ss = h.small_seal in
        let n : ℤ = distance (h.offset + 1) h.literal in
        let fn : FitsSigned w32 n =
        near_operand (h.offset + 1) h.literal (omega (arith, ai, en, sm)) (omega (arith, lh, sm)) in
        first look plain seen base last upto InStack s at (CALL_WORDS - 1) (Store Stk Dat) refl pc
        (omega (arith, ai)) (omega (arith, en)) h.code.0 tt (λ q e. inr (stored q e)) (λ s1 r p1 m1.
        let c1 = stands_same look plain seen s s1 (at + 1)
        (Move T1 (InReg Pc) ∷ Cca T1 (Imm n) ∷ Load T2 T1
        ∷ (call_rest (pos h.number) ++ (Xjmp C1 C2 ∷ [])))
        (λ q lo hi. row_others look plain s s1 (Store Stk Dat) (Mem (code_cap base last (at + 1))) r q
        (λ e. not_code q e (omega (arith, ai, lo)) (omega (arith, en, hi)))) h.code.1 in
        aimed look plain seen base last upto InStack T1 n (base + h.literal) (CALL_WORDS - 3) s1 (at + 1)
        (Load T2 T1 ∷ (call_rest (pos h.number) ++ (Xjmp C1 C2 ∷ []))) refl t1_pc fn p1
        (omega (arith, ai)) (omega (arith, en)) c1
        (leads (at + 1) base (h.offset + 1) h.literal (omega (arith, ai)))
        (fits_small (base + h.literal) (omega (arith, lh, sm))) (λ s3 p3 led kept3 c3.
        let loaded : (q : ℕ) → target (Load T2 T1) (faces look s3) ≡ Some q → base + h.literal ≡ q = λ q e. (
        let same : Some (base + h.literal) ≡ Some q =
        sym (target_code base last (base + h.literal) (omega arith) lh)
        ∙ ap target_of (sym (shows look plain s3 T1 (Mem (code_cap base last (base + h.literal))) led)) ∙ e
        in cc) in
        first look plain seen base last upto InStack s3 (at + 1 + 1 + 1) (CALL_WORDS - 4) (Load T2 T1)
        refl p3 (omega (arith, ai)) (omega (arith, en)) c3.0 tt
        (λ q e. let same = loaded q e in inl (omega (arith, same), omega (arith, same, lh)))
        (λ s4 r4 p4 kept4.
        let c4 = stands_kept look plain seen s3 s4 (at + 1 + 1 + 1 + 1)
        (call_rest (pos h.number) ++ (Xjmp C1 C2 ∷ [])) kept4 c3.1 in
        idle_code look plain seen base last upto InStack (call_rest (pos h.number)) (Xjmp C1 C2 ∷ []) 1
        s4 (at + 1 + 1 + 1 + 1) (rest_idle h.number (omega (arith, si, ss))) p4
        (omega (arith, ai)) (omega (arith, en)) c4 (λ s5 p5 kept5 c5. (
          word_is look plain seen base last upto InStack s5 _ (Xjmp C1 C2) p5 (omega (arith, ai))
              (omega (arith, en)) c5.0 tt (λ q e. (let bad : None ≡ Some q = e in absurd cc))
              (λ lt. absurd (omega (arith, lt))),
          λ u goes. tt,
        )))))

  pub call_words : CallWords look plain
  call_words s base last at seal c h pc stk apart k t lt ran =
      passed look plain seen base last (at + (CALL_WORDS - 1)) (λ word a. IsInRange a c.base c.end)
      CALL_WORDS k
      at s t (call_passes s base last at seal c h pc stk apart) lt ran

-- ---- an entry

-- what comes after the two words that make T2 lead to the `fail`: four tests, and the rest
abbrev entry_checks : ℕ → List Instr
entry_checks sb =
    Gettype T1 Stk ∷ Minus T1 T1 (Imm (pos 1)) ∷ Jnz T2 T1
    ∷ Getlin T1 Stk ∷ Minus T1 T1 (Imm (pos 1)) ∷ Jnz T2 T1 ∷ Getp T1 Stk ∷ Minus T1 T1 (Imm (pos 2))
    ∷ Jnz T2 T1 ∷ Getb T1 Stk ∷ Minus T1 T1 (Imm (pos sb)) ∷ Jnz T2 T1 ∷ []

abbrev entry_tail : ℕ → List Instr
entry_tail sb =
    Seta2b Stk ∷ Gete T1 Stk ∷ Minus T1 T1 (Imm (pos sb)) ∷ Cca Stk (InReg T1) ∷ Move T1 (Imm (pos 0))
    ∷ Move T2 (Imm (pos 0)) ∷ []

checked : (sb : ℕ) → sb ≤ LAST_PLACE → Guards (entry_checks sb)
checked sb h =
    keeps _ T1 (refl, refl, tt) refl t2_t1 (keeps _ T1 (refl, refl, (search rules)) refl t2_t1 (tests T1
    (keeps _ T1 (refl, refl, tt) refl t2_t1 (keeps _ T1 (refl, refl, (search rules)) refl t2_t1 (tests T1
    (keeps _ T1 (refl, refl, tt) refl t2_t1 (keeps _ T1 (refl, refl, (search rules)) refl t2_t1 (tests T1
    (keeps _ T1 (refl, refl, tt)
    refl t2_t1 (keeps _ T1 (refl, refl, small_operand sb h) refl t2_t1 (tests T1 done)))))))))))

tail_idle : (sb : ℕ) → sb ≤ LAST_PLACE → AreIdle (entry_tail sb)
tail_idle sb h = (
  (refl, refl, tt),
  (
    (refl, refl, tt),
    (
      (refl, refl, small_operand sb h),
      ((refl, refl, tt), ((refl, refl, (search rules)), ((refl, refl, (search rules)), tt))),
    ),
  ),
)

module _ {W : Type 0} (look : W → Word) (plain : Word → W) (seen : (x : Word) → look (plain x) ≡ x) where
  module _ (s : State W) (base last at sb : ℕ) (h : HasEntry look s.cells base last at sb)
      (pc : look s.regs.pc ≡ Mem (code_cap base last at)) (small : sb ≤ LAST_PLACE) where
    entry_passes : Passes look plain seen base last (at + ENTRY_WORDS) (λ w a. ⊥) at ENTRY_WORDS s
    unfolding entry_code
    entry_passes =
        let ai = h.at_is in
        let en = h.ends in
        let sm = h.small in
        let fh = h.fails.1 in
        aimed look plain seen base last (at + ENTRY_WORDS) (λ w a. ⊥) T2 (distance h.offset h.fail)
        (base + h.fail) (ENTRY_WORDS - 2) s at (entry_checks sb ++ entry_tail sb) refl t2_pc
        (near_operand h.offset h.fail (omega (arith, ai, en, sm)) (omega (arith, fh, sm))) pc
        (omega (arith, ai)) (omega (arith, en)) h.code (leads at base h.offset h.fail ai)
        (fits_small (base + h.fail) (omega (arith, fh, sm))) (λ u p led kept c.
        guarded look plain seen base last (at + ENTRY_WORDS) (λ w a. ⊥) (base + h.fail) (omega arith) fh
        (entry_checks sb) (entry_tail sb) 6 (checked sb small) u (at + 1 + 1) p (omega (arith, ai))
        (omega (arith, en)) c led (kept _ _ h.fails.0.0) (λ v q d.
        idle_code look plain seen base last (at + ENTRY_WORDS) (λ w a. ⊥) (entry_tail sb) [] 0 v
        (at + 1 + 1 + 12) (tail_idle sb small) q (omega (arith, ai)) (omega (arith, en)) d
        (λ x r l e. tt)))

  pub entry_words : EntryWords look plain
  entry_words s base last at sb h pc small k t lt ran =
      passed look plain seen base last (at + ENTRY_WORDS) (λ w a. ⊥) ENTRY_WORDS k at s t
      (entry_passes s base last at sb h pc small) lt ran

-- ---- a return

-- the words before those that make T2 lead to the `fail`, and the last ones
abbrev return_front : ℕ → List Instr
return_front sb = Splice Stk Stk Dat ∷ Getb T1 Stk ∷ Minus T1 T1 (Imm (pos sb)) ∷ []

abbrev return_tail : List Instr
return_tail = Load Dat Stk ∷ Move T1 (Imm (pos 0)) ∷ Store Stk T1 ∷ Move T2 (Imm (pos 0)) ∷ []

its_word : (at k : ℕ) → (at + k ≡ at + load_word) ⊎ (at + k ≡ at + wipe_word) → LoadsOrWipes k
its_word at k (inl q) = inl (let r : k ≡ load_word = omega (arith, q) in r)
its_word at k (inr q) = inr (let r : k ≡ wipe_word = omega (arith, q) in r)

module _ {W : Type 0} (look : W → Word) (plain : Word → W) (seen : (x : Word) → look (plain x) ≡ x) where
  module _ (s : State W) (base last at sb : ℕ) (h : HasReturn look s.cells base last at sb)
      (pc : look s.regs.pc ≡ Mem (code_cap base last at)) (small : sb ≤ LAST_PLACE) where
    -- up to the load
    to_load : (Also : ℕ → ℕ → Type 0) (n : ℕ)
        → ((u : State W) → look u.regs.pc ≡ Mem (code_cap base last (at + 3 + 1 + 1 + 1))
        → Stands look u.cells (at + 3 + 1 + 1 + 1) return_tail
        → Passes look plain seen base last (at + RETURN_WORDS) Also (at + 3 + 1 + 1 + 1) n u)
        → Passes look plain seen base last (at + RETURN_WORDS) Also at (suc (suc (suc (suc (suc (suc n)))))) s
    unfolding return_code
    to_load Also n more =
        let ai = h.at_is in
        let en = h.ends in
        let sm = h.small in
        let fh = h.fails.1 in
        let to : ℤ = distance (h.offset + 3) h.fail in
        idle_code look plain seen base last (at + RETURN_WORDS) Also (return_front sb)
        (Move T2 (InReg Pc) ∷ Cca T2 (Imm to) ∷ Jnz T2 T1 ∷ return_tail) (suc (suc (suc n))) s at
        ((refl, refl, tt), ((refl, refl, tt), ((refl, refl, small_operand sb small), tt))) pc
        (omega (arith, ai)) (omega (arith, en)) h.code (λ u p kept c.
        aimed look plain seen base last (at + RETURN_WORDS) Also T2 to (base + h.fail) (suc n) u (at + 3)
        (Jnz T2 T1 ∷ return_tail) refl t2_pc
        (near_operand (h.offset + 3) h.fail (omega (arith, ai, en, sm)) (omega (arith, fh, sm))) p
        (omega (arith, ai)) (omega (arith, en)) c
        (leads (at + 3) base (h.offset + 3) h.fail (omega (arith, ai)))
        (fits_small (base + h.fail) (omega (arith, fh, sm))) (λ v q led kept2 d.
        guarded look plain seen base last (at + RETURN_WORDS) Also (base + h.fail) (omega arith) fh
        (Jnz T2 T1 ∷ []) return_tail n (tests T1 done) v (at + 3 + 1 + 1) q (omega (arith, ai))
        (omega (arith, en)) d led (kept2 _ _ (kept _ _ h.fails.0.0)) more))

    -- each word but the last
    abbrev LoadsOrWipesAt : ℕ → ℕ → Type 0
    LoadsOrWipesAt w a = (w ≡ at + load_word) ⊎ (w ≡ at + wipe_word)

    all_but_last : Passes look plain seen base last (at + RETURN_WORDS) LoadsOrWipesAt at (RETURN_WORDS - 1) s
    all_but_last =
        let ai = h.at_is in
        let en = h.ends in
        to_load LoadsOrWipesAt 3 (λ u p c.
        first look plain seen base last (at + RETURN_WORDS) LoadsOrWipesAt u (at + 3 + 1 + 1 + 1) 2
        (Load Dat Stk) refl p (omega (arith, ai)) (omega (arith, en)) c.0 tt
        (λ a e. inr (inl (omega arith))) (λ u1 r1 p1 kept1.
        idle_first look plain seen base last (at + RETURN_WORDS) LoadsOrWipesAt u1 (at + 3 + 1 + 1 + 1 + 1) 1
        (Move T1 (Imm (pos 0))) (refl, refl, (search rules)) p1 (omega (arith, ai)) (omega (arith, en))
        (kept1 _ _ c.1.0) (λ u2 r2 p2 kept2.
        first look plain seen base last (at + RETURN_WORDS) LoadsOrWipesAt u2 (at + 3 + 1 + 1 + 1 + 1 + 1) 0
        (Store Stk T1) refl p2 (omega (arith, ai)) (omega (arith, en)) (kept2 _ _ (kept1 _ _ c.1.1.0)) tt
        (λ a e. inr (inr (omega arith))) (λ u3 r3 p3 m3. tt))))

  pub return_words : ReturnWords look plain
  return_words s base last at sb h pc small k t lt ran =
      let y = passed look plain seen base last (at + RETURN_WORDS)
      (LoadsOrWipesAt s base last at sb h pc small)
      (RETURN_WORDS - 1) k at s t (all_but_last s base last at sb h pc small) lt ran in
      record {
        touches = λ a x. elim (y.touches a x)
            as (λ _. IsInRange a base last ⊎ ((look t.regs.pc ≡ Mem (code_cap base last (at + k)))
            × LoadsOrWipes k)) [ inl z ↦ inl z | inr z ↦ inr (z.0, its_word at k z.1) ];
        at_pc = y.at_pc;
        no_jump = y.no_jump;
      }

  -- from the load on, where stk and data are joined
  module _ (s : State W) (base last at sb low b end : ℕ) (to : ℤ) (w : W)
      (h : HasReturn look s.cells base last at sb)
      (hpc : look s.regs.pc ≡ Mem (code_cap base last at))
      (hstk : look s.regs.stk ≡ Mem (record (stack_cap sb low 0) { addr = to }))
      (hdat : look s.regs.dat ≡ Mem (stack_cap b end b))
      (joint : low + 1 ≡ b) (sl : sb ≤ b) (le : b ≤ end) (small : end ≤ LAST_PLACE)
      (out : IsOutsideRange b base last) (there : cell s.cells b ≡ Some w)
      (lin : is_linear (look w) ≡ false)
    where
      abbrev pub at_load : State W
      at_load = tested look plain seen s base last (at + load_word) (base + h.fail) (stack_cap sb end b)
          (pos 0)

      pub runs_to_load : run_of look plain load_word s ≡ went at_load
      runs_to_load =
          return_tests look plain seen s base last at sb (record (stack_cap sb low 0) { addr = to })
          (stack_cap b end b) h hpc hstk hdat refl refl refl joint (omega (arith, sl, le, small))
          (omega (arith, sl, le, small)) refl

      abbrev AtFirst : ℕ → ℕ → Type 0
      AtFirst word a = (a ≡ b) × ((word ≡ at + load_word) ⊎ (word ≡ at + wipe_word))

      first_is : target_of (Memory (stack_cap sb end b)) ≡ Some b
      first_is = rw (le-leb sb b sl, le-leb b end le) refl

      -- by stk the first cell is used
      used_first : (u : State W) → look u.regs.stk ≡ Mem (stack_cap sb end b) → (a : ℕ)
          → target_of (faces look u Stk) ≡ Some a → a ≡ b
      used_first u e a t =
          let same : Some b ≡ Some a =
          sym first_is ∙ ap target_of (sym (shows look plain u Stk (Mem (stack_cap sb end b)) e)) ∙ t in
          cc

      loads_first : cell_used (Load Dat Stk) (faces look at_load) (cell_faces look at_load) ≡ Some b
      unfolding cell_faces
      loads_first =
          ap (λ f. reached may_read f (cell_faces look at_load))
          (shows look plain at_load Stk (Mem (stack_cap sb end b)) (seen _))
          ∙ ap (λ e. if is_some (face_there (cell_faces look at_load) e) then e else None) first_is
          ∙ ap (λ e. if is_some (look_face look e) then Some b else None) there

      -- the load touches it
      pub load_touches : Touches look at_load b
      unfolding return_code
      load_touches =
          let ai = h.at_is in
          let en = h.ends in
          let z : at + 1 + 1 + 1 + 1 + 1 + 1 ≡ at + load_word = omega arith in
          let c : Stands look s.cells (at + load_word) return_tail =
          subst (λ q. Stands look s.cells q return_tail) z h.code.1.1.1.1.1.1 in
          inr (ap (λ f. used_by f (faces look at_load) (cell_faces look at_load))
          (fetch_at look plain at_load base last (at + load_word) (Load Dat Stk) (seen _) (omega (arith, ai))
          (omega (arith, en)) c.0 tt) ∙ loads_first)

      from_load : Passes look plain seen base last (at + RETURN_WORDS) AtFirst (at + load_word)
          (RETURN_WORDS - load_word) at_load
      unfolding return_code
      from_load =
          let ai = h.at_is in
          let en = h.ends in
          let stk : CapFields = stack_cap sb end b in
          let z : at + 1 + 1 + 1 + 1 + 1 + 1 ≡ at + load_word = omega arith in
          let c : Stands look s.cells (at + load_word) return_tail =
          subst (λ q. Stands look s.cells q return_tail) z h.code.1.1.1.1.1.1 in
          first look plain seen base last (at + RETURN_WORDS) AtFirst at_load (at + load_word) 3
          (Load Dat Stk) refl (seen _) (omega (arith, ai)) (omega (arith, en)) c.0 tt
          (λ a e. inr (used_first at_load (seen _) a e, inl refl)) (λ u1 r1 p1 kept1.
          let next1 : Word = Mem (code_cap base last (at + load_word + 1)) in
          let t1 : State W = put (put at_load (R Dat) w) (R Pc) (plain next1) in
          let m1 : row look plain (Load Dat Stk) next1 at_load ≡ went t1 =
          load_goes look plain Dat Stk next1 at_load stk b w (look w) refl (seen _) refl refl sl le there
          refl lin (sym (is_linear-face (look w)) ∙ lin) in
          let same1 : t1 ≡ u1 = (let q : went t1 ≡ went u1 = sym m1 ∙ r1 in cc) in
          let stk1 : look u1.regs.stk ≡ Mem stk =
          ap (λ (y : State W). look y.regs.stk) (sym same1) ∙ seen _ in
          idle_first look plain seen base last (at + RETURN_WORDS) AtFirst u1 (at + load_word + 1) 2
          (Move T1 (Imm (pos 0))) (refl, refl, (search rules)) p1 (omega (arith, ai)) (omega (arith, en))
          (kept1 _ _ c.1.0) (λ u2 r2 p2 kept2.
          let next2 : Word = Mem (code_cap base last (at + load_word + 1 + 1)) in
          let t2 : State W = put (put u1 (R T1) (plain (Int (pos 0)))) (R Pc) (plain next2) in
          let m2 : row look plain (Move T1 (Imm (pos 0))) next2 u1 ≡ went t2 =
          set_goes look plain T1 (pos 0) next2 u1 refl in
          let same2 : t2 ≡ u2 = (let q : went t2 ≡ went u2 = sym m2 ∙ r2 in cc) in
          let stk2 : look u2.regs.stk ≡ Mem stk =
          ap (λ (y : State W). look y.regs.stk) (sym same2) ∙ stk1 in
          first look plain seen base last (at + RETURN_WORDS) AtFirst u2 (at + load_word + 1 + 1) 1
          (Store Stk T1) refl p2 (omega (arith, ai)) (omega (arith, en)) (kept2 _ _ (kept1 _ _ c.1.1.0)) tt
          (λ a e. inr (used_first u2 stk2 a e, inr (omega arith))) (λ u3 r3 p3 m3.
          let spared : cell u3.cells (at + load_word + 1 + 1 + 1)
          ≡ cell u2.cells (at + load_word + 1 + 1 + 1) =
          row_others look plain u2 u3 (Store Stk T1) (Mem (code_cap base last (at + load_word + 1 + 1 + 1)))
          r3
          (at + load_word + 1 + 1 + 1) (λ e. (let q = used_first u2 stk2 _ e in
          elim out as (λ _. ⊥) [ inl y ↦ omega (arith, y, q, ai) | inr y ↦ omega (arith, y, q, en) ])) in
          idle_first look plain seen base last (at + RETURN_WORDS) AtFirst u3 (at + load_word + 1 + 1 + 1) 0
          (Move T2 (Imm (pos 0))) (refl, refl, (search rules)) p3 (omega (arith, ai)) (omega (arith, en))
          (ap (look_face look) spared ∙ kept2 _ _ (kept1 _ _ c.1.1.1.0)) (λ u4 r4 p4 kept4. tt))))

      joint_word : (k : ℕ) (t : State W) → k < RETURN_WORDS → run_of look plain k s ≡ went t
          → AtWord look plain base last (at + k) (at + RETURN_WORDS) (λ a. (a ≡ b) × LoadsOrWipes k) t
      joint_word k t lt ran = elim (cases_lt k load_word)
          as (λ _. AtWord look plain base last (at + k) (at + RETURN_WORDS)
          (λ a. (a ≡ b) × LoadsOrWipes k) t) [
            | inl before ↦
                (let y = return_words s base last at sb h hpc (omega (arith, sl, le, small)) k t
                (omega (arith, before)) ran in
                record {
                  touches = λ a x. elim (y.touches a x)
                      as (λ _. IsInRange a base last ⊎ ((look t.regs.pc ≡ Mem (code_cap base last (at + k)))
                      × ((a ≡ b) × LoadsOrWipes k))) [
                        | inl z ↦ inl z
                        | inr z ↦
                            absurd (elim z.1 as (λ _. ⊥)
                            [ inl q ↦ omega (arith, q, before) | inr q ↦ omega (arith, q, before) ])
                      ];
                  at_pc = y.at_pc;
                  no_jump = y.no_jump;
                })
            | inr behind ↦
                (let e : k ≡ load_word + (k - load_word) = omega (arith, behind) in
                let there : at + load_word + (k - load_word) ≡ at + k = omega (arith, behind) in
                let rest : run_of look plain (k - load_word) at_load ≡ went t =
                sym (ap (λ y. and_then y (run_of look plain (k - load_word))) runs_to_load)
                ∙ sym (run_of-add look plain load_word (k - load_word) s)
                ∙ subst (λ y. run_of look plain y s ≡ went t) e ran in
                let y = passed look plain seen base last (at + RETURN_WORDS) AtFirst
                (RETURN_WORDS - load_word) (k - load_word) (at + load_word) at_load t from_load
                (omega (arith, lt, behind)) rest in
                let y2 : AtWord look plain base last (at + k) (at + RETURN_WORDS) (AtFirst (at + k)) t =
                subst (λ q. AtWord look plain base last q (at + RETURN_WORDS) (AtFirst q) t) there y in
                record {
                  touches = λ a x. elim (y2.touches a x)
                      as (λ _. IsInRange a base last ⊎ ((look t.regs.pc ≡ Mem (code_cap base last (at + k)))
                      × ((a ≡ b) × LoadsOrWipes k)))
                      [ inl z ↦ inl z | inr z ↦ inr (z.0, (z.1.0, its_word at k z.1.1)) ];
                  at_pc = y2.at_pc;
                  no_jump = y2.no_jump;
                })
          ]

  pub joint_return_words : JointReturnWords look plain
  joint_return_words s base last at sb low b end to w h hpc hstk hdat joint sl le small out there lin =
      joint_word s base last at sb low b end to w h hpc hstk hdat joint sl le small out there lin

  -- ---- returns that fail touch the code alone

  module _ (s : State W) (base last at sb : ℕ) (h : HasReturn look s.cells base last at sb)
      (hpc : look s.regs.pc ≡ Mem (code_cap base last at)) (small : sb ≤ LAST_PLACE) where
    before_load : (k : ℕ) (t : State W) → k < load_word → run_of look plain k s ≡ went t → (a : ℕ)
        → Touches look t a → IsInRange a base last
    before_load k t lt ran a x =
        elim ((return_words s base last at sb h hpc small k t (omega (arith, lt)) ran).touches a x)
        as (λ _. IsInRange a base last) [
          | inl z ↦ z
          | inr z ↦
              absurd (elim z.1 as (λ _. ⊥) [ inl q ↦ omega (arith, q, lt) | inr q ↦ omega (arith, q, lt) ])
        ]

    -- they can't be joined
    pub apart_touches : CannotJoin (face_of (look s.regs.stk)) (face_of (look s.regs.dat))
        → (k : ℕ) (t : State W) → run_of look plain k s ≡ went t → (a : ℕ) → Touches look t a
        → IsInRange a base last
    apart_touches cannot zero t ran = before_load 0 t (omega arith) ran
    apart_touches cannot (suc k) t ran =
        let z : 1 + k ≡ suc k = omega arith in
        let f : HasFailed (run_of look plain (1 + k) s) =
        failed_more look plain 1 k s (return_apart look plain s base last at sb h hpc cannot) in
        let bad : HasFailed (went t) =
        subst (λ r. HasFailed r) ran (subst (λ n. HasFailed (run_of look plain n s)) z f) in
        absurd bad

    -- they are joined off the stack's base
    pub off_touches : (low high : CapFields) → look s.regs.stk ≡ Mem low → look s.regs.dat ≡ Mem high
        → lin_is low.lin ≡ true → lin_is high.lin ≡ true → same_kind low high ≡ true
        → low.end + 1 ≡ high.base → low.base ≤ LAST_PLACE → low.base ≢ sb
        → (k : ℕ) (t : State W) → run_of look plain k s ≡ went t → (a : ℕ) → Touches look t a
        → IsInRange a base last
    off_touches low high hstk hdat ll lh same joint s1 ne k t ran =
        elim (cases_lt k load_word) as (λ _. (a : ℕ) → Touches look t a → IsInRange a base last) [
          | inl lt ↦ before_load k t lt ran
          | inr ge ↦
              (let fh = h.fails.1 in
              let turned = return_turns look plain seen s base last at sb low high h hpc hstk hdat ll lh same
              joint s1 small ne in
              let e : k ≡ load_word + (k - load_word) = omega (arith, ge) in
              let rest =
              sym (ap (λ y. and_then y (run_of look plain (k - load_word))) turned)
              ∙ sym (run_of-add look plain load_word (k - load_word) s)
              ∙ subst (λ y. run_of look plain y s ≡ went t) e ran in
              let y = passed look plain seen base last 0 (λ w a. ⊥) (suc (k - load_word)) (k - load_word) 0 _
              t
              (at_fail look plain seen base last 0 (λ w a. ⊥) (base + h.fail) (omega arith) fh 0
              (suc (k - load_word)) _ (seen _) h.fails.0.0) (omega arith) rest in
              λ a x. elim (y.touches a x) as (λ _. IsInRange a base last)
              [ inl z ↦ z | inr z ↦ absurd z.1 ])
        ]
