-- What the words of an entry do, for words of any kind.
use Rattle.std.proofs.Common.{◌≡◌, ◌≢◌, inl, inr, ℕ, ◌+◌, ◌-◌, ◌≤◌, pos, ℤ, ◌+ℤ◌, ◌-ℤ◌, true, false, [], ◌∷◌}
use Rattle.std.proofs.Common.{refl, ap, ◌∙◌, arith, rules, FitsSigned, w32, eqb-true}
use Rattle.std.specs.Prelude.{◌==◌}
use Rattle.std.proofs.lemmas.Int.{ints}
use Rattle.std.proofs.lemmas.Bool.{cases_Bool, eqb-false}
use Rattle.cap_words.specs.declared.TheConstants.{LAST_PLACE}
use Rattle.cap_words.specs.declared.Word.{Word}
use Rattle.cap_words.specs.declared.Word.TheVariants.{Int, Mem, Seal, Sealed}
use Rattle.cap_words.specs.declared.Sealable.TheVariants.{Mem as MemIn, Seal as SealIn}
use Rattle.cap_words.specs.declared.CapFields.{CapFields}
use Rattle.cap_words.specs.declared.Perm.{Perm}
use Rattle.cap_words.specs.declared.Perm.TheVariants.{No, R as ReadOnly, Rw, Rx, Rwx}
use Rattle.cap_words.specs.Linear.{is_linear, lin_is, zero_word}
use Rattle.cap_words.specs.Face.{face_of, FaceInOrder}
use Rattle.cap_words.specs.Faces.{perm_number, face_number}
use Rattle.lcm_isa.specs.declared.Reg.TheVariants.{Pc, Stk, T1, T2}
use Rattle.lcm_isa.specs.declared.Operand.TheVariants.{Imm}
use Rattle.lcm_isa.specs.declared.Instr.{Instr}
use Rattle.lcm_isa.specs.declared.Instr.TheVariants.{Gettype, Getlin, Getp, Getb, Minus, Jnz, Fail}
use Rattle.lcm_isa.specs.Numbers.{IsInstr}
use Rattle.lcm_machine.specs.declared.FailCause.TheVariants.{F4}
use Rattle.lcm_machine.specs.declared.Place.TheVariants.{R}
use Rattle.lcm_machine.specs.Maps.{State}
use Rattle.lcm_machine.specs.Table.{fits_64, is_zero, bit}
use Rattle.lcm_machine.specs.Row.{put, row, went, failed}
use Rattle.lcm_machine.specs.Runs.{and_then, run_of, Stands, code_cap}
use Rattle.lcm_machine.proofs.Offers.{go, ran, stop, stays, number_in, fail_fails, move_goes, set_goes}
use Rattle.lcm_machine.proofs.Offers.{cca_goes, gettype_goes, getlin_goes, getp_goes, getb_goes, gete_goes}
use Rattle.lcm_machine.proofs.Offers.{minus_goes, jnz_goes, jnz_jumps, seta2b_goes, run_then, run_of-add}
use Rattle.call_sequence.specs.Sequences.{entry_code, distance}
use Rattle.call_sequence.specs.SequenceRuns.{HasEntry, EntryRuns, EntryFails, is_stack_at}
use Rattle.call_sequence.proofs.LawLemmas.{fits_small, small_operand, near_operand, leads, not_zero}
use Rattle.call_sequence.proofs.LawLemmas.{fits_less}

perm_fits : (p : Perm) → fits_64 (pos (perm_number p) -ℤ pos 2) ≡ true
perm_fits No = refl
perm_fits ReadOnly = refl
perm_fits Rw = refl
perm_fits Rx = refl
perm_fits Rwx = refl

module _ {W : Type 0} (look : W → Word) (plain : Word → W) (seen : (x : Word) → look (plain x) ≡ x) where
  -- a state at an address with two numbers beside
  abbrev tested : State W → ℕ → ℕ → ℕ → ℕ → ℤ → State W
  tested s base last at fail z =
      record s {
        regs =
            record s.regs {
              pc = plain (Mem (code_cap base last at));
              t1 = plain (Int z);
              t2 =
                  plain (Mem (code_cap base last fail));
            };
      }

  abbrev begun : State W → ℕ → ℕ → ℕ → ℕ → State W
  begun s base last at fail =
      record s {
        regs =
            record s.regs
            { pc = plain (Mem (code_cap base last at)); t2 = plain (Mem (code_cap base last fail)) };
      }

  -- a test that holds: three words
  test_goes : (s : State W) (base last at fail : ℕ) (i : Instr) (v c : ℤ)
      → look s.regs.pc ≡ Mem (code_cap base last at) → look s.regs.t2 ≡ Mem (code_cap base last fail)
      → Stands look s.cells at (i ∷ Minus T1 T1 (Imm c) ∷ Jnz T2 T1 ∷ []) → base ≤ at → at + 3 ≤ last + 1
      → IsInstr i → FitsSigned w32 c
      → ((next : Word)
      → row look plain i next s ≡ went (put (put s (R T1) (plain (Int v))) (R Pc) (plain next)))
      → v -ℤ c ≡ pos 0
      → run_of look plain 3 s
      ≡ went (record s {
        regs = record s.regs
            { pc = plain (Mem (code_cap base last (at + 1 + 1 + 1))); t1 = plain (Int (pos 0)) };
      })
  test_goes s base last at fail i v c hpc ht code low high ok fc does e =
      go look plain _ _ _ base last at _ hpc low (omega arith) code.0 ok (does _)
      ∙ go look plain _ _ _ base last (at + 1) _ (seen _) (omega arith) (omega arith)
      code.1.0 fc (minus_goes look plain _ _ _ _ _ v c (pos 0) refl (seen _) refl e refl)
      ∙ go look plain _ _ _ base last (at + 1 + 1) _ (seen _) (omega arith) (omega arith)
      code.1.1.0 tt (jnz_goes look plain _ _ _ _ (pos 0) (seen _) refl)
      ∙ ran look plain _

  -- a test that doesn't: the part's fail
  test_fails : (s : State W) (base last at fail : ℕ) (i : Instr) (v c : ℤ)
      → look s.regs.pc ≡ Mem (code_cap base last at) → look s.regs.t2 ≡ Mem (code_cap base last fail)
      → Stands look s.cells at (i ∷ Minus T1 T1 (Imm c) ∷ Jnz T2 T1 ∷ [])
      → Stands look s.cells fail (Fail ∷ []) → base ≤ at → at + 3 ≤ last + 1 → base ≤ fail → fail ≤ last
      → IsInstr i → FitsSigned w32 c
      → ((next : Word)
      → row look plain i next s ≡ went (put (put s (R T1) (plain (Int v))) (R Pc) (plain next)))
      → fits_64 (v -ℤ c) ≡ true → is_zero (v -ℤ c) ≡ false
      → run_of look plain 4 s ≡ failed F4 (pos fail)
  test_fails s base last at fail i v c hpc ht code f low high fl fh ok fc does fit e =
      go look plain _ _ _ base last at _ hpc low (omega arith) code.0 ok (does _)
      ∙ go look plain _ _ _ base last (at + 1) _ (seen _) (omega arith) (omega arith)
      code.1.0 fc (minus_goes look plain _ _ _ _ _ v c (v -ℤ c) refl (seen _) refl refl fit)
      ∙ go look plain _ _ _ base last (at + 1 + 1) _ (seen _) (omega arith) (omega arith)
      code.1.1.0 tt
      (jnz_jumps look plain _ _ _ _ _ (v -ℤ c) (seen _) e (stays look plain _ _ (ap is_linear ht)))
      ∙ stop look plain _ _ base last fail Fail F4 ht fl fh f.0 tt (fail_fails look plain _ _)

  -- what goes on and then fails, and stays failed
  then_fails : (n m k : ℕ) (s t : State W) (at : ℕ) → run_of look plain n s ≡ went t
      → run_of look plain m t ≡ failed F4 (pos at) → run_of look plain (n + m + k) s ≡ failed F4 (pos at)
  then_fails n m k s t at goes fails =
      run_of-add look plain (n + m) k s
      ∙ ap (λ r. and_then r (run_of look plain k)) (run_then look plain n m s t _ goes fails)

  module _ (s : State W) (base last at sb fail offset to : ℕ)
      (hpc : look s.regs.pc ≡ Mem (code_cap base last at))
      (code : Stands look s.cells at (entry_code to offset sb))
      (low : base ≤ at) (high : at + 20 ≤ last + 1) (to_fail : pos at +ℤ distance offset to ≡ pos fail)
      (small_fail : fail ≤ LAST_PLACE) (fn : FitsSigned w32 (distance offset to)) where
    abbrev p2 : ℕ
    p2 = at + 1 + 1

    begins : run_of look plain 2 s ≡ went (begun s base last p2 fail)
    unfolding entry_code
    begins =
        go look plain _ _ _ base last at _ hpc low (omega arith)
        code.0 tt (move_goes look plain _ _ _ _ _ refl (stays look plain _ _ (ap is_linear hpc)))
        ∙ go look plain _ _ _ base last (at + 1) _ (seen _) (omega arith) (omega arith)
        code.1.0 fn
        (cca_goes look plain _ _ _ _ (code_cap base last at) (distance offset to) (pos fail)
        refl hpc refl to_fail (fits_small fail small_fail))
        ∙ ran look plain _

    abbrev b2 : State W
    b2 = begun s base last p2 fail

    module _ (high_fail : base ≤ fail) (end_fail : fail ≤ last) (stops : Stands look s.cells fail (Fail ∷ []))
      where
        -- stk is no memory capability
        no_memory : (x : Word) → look s.regs.stk ≡ x → is_zero (face_number (face_of x) -ℤ pos 1) ≡ false
            → fits_64 (face_number (face_of x) -ℤ pos 1) ≡ true
            → run_of look plain 20 s ≡ failed F4 (pos fail)
        unfolding entry_code
        no_memory x hx e f =
            then_fails 2 4 14 s b2 fail begins
            (test_fails b2 base last p2 fail (Gettype T1 Stk) (face_number (face_of x)) (pos 1) (seen _)
            (seen _) (code.1.1.0, (code.1.1.1.0, (code.1.1.1.1.0, tt))) stops (omega arith) (omega arith)
            high_fail end_fail tt (search rules)
            (λ next. gettype_goes look plain T1 Stk next b2 x refl hx) f e)

    module _ (c : CapFields) (hstk : look s.regs.stk ≡ Mem c) where
      up1 : run_of look plain 5 s ≡ went (tested s base last (at + 1 + 1 + 1 + 1 + 1) fail (pos 0))
      unfolding entry_code
      up1 =
          run_then look plain 2 3 s b2 _ begins
          (test_goes b2 base last (at + 1 + 1) fail (Gettype T1 Stk) (pos 1) (pos 1) (seen _) (seen _)
          (code.1.1.0, (code.1.1.1.0, (code.1.1.1.1.0, tt))) (omega arith) (omega arith) tt (search rules)
          (λ next. gettype_goes look plain T1 Stk next b2 (Mem c) refl hstk) refl)

      up2 : lin_is c.lin ≡ true
          → run_of look plain 8 s
          ≡ went (tested s base last (at + 1 + 1 + 1 + 1 + 1 + 1 + 1 + 1) fail (pos 0))
      unfolding entry_code
      up2 lin =
          run_then look plain 5 3 s (tested s base last (at + 1 + 1 + 1 + 1 + 1) fail (pos 0)) _ (up1)
          (test_goes (tested s base last (at + 1 + 1 + 1 + 1 + 1) fail (pos 0))
          base last (at + 1 + 1 + 1 + 1 + 1) fail (Getlin T1 Stk) (bit (lin_is c.lin)) (pos 1) (seen _)
          (seen _) (code.1.1.1.1.1.0, (code.1.1.1.1.1.1.0, (code.1.1.1.1.1.1.1.0, tt))) (omega arith)
          (omega arith) tt (search rules)
          (λ next. getlin_goes look plain T1 Stk next
          (tested s base last (at + 1 + 1 + 1 + 1 + 1) fail (pos 0)) (Mem c) refl hstk)
          (ap (λ b. bit b -ℤ pos 1) lin))

      up3 : lin_is c.lin ≡ true → (perm_number c.perm == 2) ≡ true
          → run_of look plain 11 s
          ≡ went (tested s base last (at + 1 + 1 + 1 + 1 + 1 + 1 + 1 + 1 + 1 + 1 + 1) fail (pos 0))
      unfolding entry_code
      up3 lin perm =
          run_then look plain 8 3 s (tested s base last (at + 1 + 1 + 1 + 1 + 1 + 1 + 1 + 1) fail (pos 0))
          _ (up2 lin)
          (test_goes (tested s base last (at + 1 + 1 + 1 + 1 + 1 + 1 + 1 + 1) fail (pos 0))
          base last (at + 1 + 1 + 1 + 1 + 1 + 1 + 1 + 1) fail (Getp T1 Stk) (pos (perm_number c.perm))
          (pos 2) (seen _) (seen _)
          (code.1.1.1.1.1.1.1.1.0, (code.1.1.1.1.1.1.1.1.1.0, (code.1.1.1.1.1.1.1.1.1.1.0, tt)))
          (omega arith) (omega arith) tt (search rules)
          (λ next. getp_goes look plain T1 Stk next
          (tested s base last (at + 1 + 1 + 1 + 1 + 1 + 1 + 1 + 1) fail (pos 0)) (Mem c) refl hstk)
          (ap (λ p. pos p -ℤ pos 2) (eqb-true (perm_number c.perm) 2 perm)))

      up4 : lin_is c.lin ≡ true → (perm_number c.perm == 2) ≡ true → c.base ≡ sb → sb ≤ LAST_PLACE
          → run_of look plain 14 s ≡ went
          (tested s base last (at + 1 + 1 + 1 + 1 + 1 + 1 + 1 + 1 + 1 + 1 + 1 + 1 + 1 + 1) fail (pos 0))
      unfolding entry_code
      up4 lin perm is_base small_sb =
          let same : pos c.base -ℤ pos sb ≡ pos 0 = omega (arith, ints) in
          run_then look plain 11 3 s
          (tested s base last (at + 1 + 1 + 1 + 1 + 1 + 1 + 1 + 1 + 1 + 1 + 1) fail (pos 0))
          _ (up3 lin perm)
          (test_goes (tested s base last (at + 1 + 1 + 1 + 1 + 1 + 1 + 1 + 1 + 1 + 1 + 1) fail (pos 0))
          base last (at + 1 + 1 + 1 + 1 + 1 + 1 + 1 + 1 + 1 + 1 + 1) fail (Getb T1 Stk) (pos c.base)
          (pos sb) (seen _) (seen _) (
            code.1.1.1.1.1.1.1.1.1.1.1.0,
            (code.1.1.1.1.1.1.1.1.1.1.1.1.0, (code.1.1.1.1.1.1.1.1.1.1.1.1.1.0, tt)),
          ) (omega arith)
          (omega arith) tt (small_operand sb small_sb)
          (λ next. getb_goes look plain T1 Stk next
          (tested s base last (at + 1 + 1 + 1 + 1 + 1 + 1 + 1 + 1 + 1 + 1 + 1) fail (pos 0)) (Mem c)
          refl hstk) same)

      pub runs : lin_is c.lin ≡ true → (perm_number c.perm == 2) ≡ true → c.base ≡ sb → sb ≤ c.end
          → c.end ≤ LAST_PLACE
          → run_of look plain 20 s
          ≡ went (record s {
            regs = record s.regs {
              pc = plain (Mem (code_cap base last (at + 20)));
              stk =
                  plain (Mem (record c { addr = pos c.end }));
              t1 = zero_word plain;
              t2 = zero_word plain;
            };
          })
      unfolding entry_code
      runs lin perm is_base order small_end =
          let small_sb : sb ≤ LAST_PLACE = omega arith in
          let by : pos c.end -ℤ pos sb ≡ pos (c.end - sb) = omega (arith, ints) in
          let on : pos c.base +ℤ pos (c.end - sb) ≡ pos c.end = omega (arith, ints) in
          let ends : at + 1 + 1 + 1 + 1 + 1 + 1 + 1 + 1 + 1 + 1 + 1 + 1 + 1 + 1 + 1 + 1 + 1 + 1 + 1 + 1
          ≡ at + 20 = omega arith in
          run_then look plain 14 6 s
          (tested s base last (at + 1 + 1 + 1 + 1 + 1 + 1 + 1 + 1 + 1 + 1 + 1 + 1 + 1 + 1) fail (pos 0))
          _ (up4 lin perm is_base small_sb) (
          go look plain _ _ _ base last (at + 1 + 1 + 1 + 1 + 1 + 1 + 1 + 1 + 1 + 1 + 1 + 1 + 1 + 1)
          _ (seen _) (omega arith) (omega arith)
          code.1.1.1.1.1.1.1.1.1.1.1.1.1.1.0 tt (seta2b_goes look plain _ _ _ c refl hstk)
          ∙ go look plain _ _ _ base last (at + 1 + 1 + 1 + 1 + 1 + 1 + 1 + 1 + 1 + 1 + 1 + 1 + 1 + 1 + 1)
          _ (seen _) (omega arith) (omega arith)
          code.1.1.1.1.1.1.1.1.1.1.1.1.1.1.1.0 tt
          (gete_goes look plain _ _ _ _ (Mem (record c { addr = pos c.base })) refl (seen _))
          ∙ go look plain _ _ _ base last (at + 1 + 1 + 1 + 1 + 1 + 1 + 1 + 1 + 1 + 1 + 1 + 1 + 1 + 1 + 1 + 1)
          _ (seen _) (omega arith) (omega arith)
          code.1.1.1.1.1.1.1.1.1.1.1.1.1.1.1.1.0 (small_operand sb small_sb)
          (minus_goes look plain _ _ _ _ _ (pos c.end) (pos sb) (pos (c.end - sb)) refl (seen _)
          refl by (fits_small (c.end - sb) (omega arith)))
          ∙ go look plain _ _ _ base last
          (at + 1 + 1 + 1 + 1 + 1 + 1 + 1 + 1 + 1 + 1 + 1 + 1 + 1 + 1 + 1 + 1 + 1) _ (seen _)
          (omega arith) (omega arith)
          code.1.1.1.1.1.1.1.1.1.1.1.1.1.1.1.1.1.0 tt
          (cca_goes look plain _ _ _ _ (record c { addr = pos c.base }) (pos (c.end - sb)) (pos c.end)
          refl (seen _) (number_in look plain _ _ (pos (c.end - sb)) (seen _))
          on (fits_small c.end small_end))
          ∙ go look plain _ _ _ base last
          (at + 1 + 1 + 1 + 1 + 1 + 1 + 1 + 1 + 1 + 1 + 1 + 1 + 1 + 1 + 1 + 1 + 1 + 1) _ (seen _)
          (omega arith) (omega arith) code.1.1.1.1.1.1.1.1.1.1.1.1.1.1.1.1.1.1.0 (search rules)
          (set_goes look plain _ _ _ _ refl)
          ∙ go look plain _ _ _ base last
          (at + 1 + 1 + 1 + 1 + 1 + 1 + 1 + 1 + 1 + 1 + 1 + 1 + 1 + 1 + 1 + 1 + 1 + 1 + 1) _ (seen _)
          (omega arith) (omega arith) code.1.1.1.1.1.1.1.1.1.1.1.1.1.1.1.1.1.1.1.0 (search rules)
          (set_goes look plain _ _ _ _ refl)
          ∙ ran look plain _
          ∙ ap (λ a.
          went (record s {
            regs = record s.regs {
              pc = plain (Mem (code_cap base last a));
              stk =
                  plain (Mem (record c { addr = pos c.end }));
              t1 = zero_word plain;
              t2 = zero_word plain;
            };
          }))
          ends)

      module _ (high_fail : base ≤ fail) (end_fail : fail ≤ last)
          (stops : Stands look s.cells fail (Fail ∷ [])) where
        normal_fails : lin_is c.lin ≡ false → run_of look plain 20 s ≡ failed F4 (pos fail)
        unfolding entry_code
        normal_fails e =
            let v : bit (lin_is c.lin) ≡ pos 0 = ap bit e in
            then_fails 5 4 11 s (tested s base last (at + 1 + 1 + 1 + 1 + 1) fail (pos 0)) fail up1
            (test_fails (tested s base last (at + 1 + 1 + 1 + 1 + 1) fail (pos 0))
            base last (at + 1 + 1 + 1 + 1 + 1) fail (Getlin T1 Stk) (pos 0) (pos 1) (seen _) (seen _)
            (code.1.1.1.1.1.0, (code.1.1.1.1.1.1.0, (code.1.1.1.1.1.1.1.0, tt))) stops (omega arith)
            (omega arith) high_fail end_fail tt (search rules)
            (λ next. getlin_goes look plain T1 Stk next
            (tested s base last (at + 1 + 1 + 1 + 1 + 1) fail (pos 0)) (Mem c) refl hstk
            ∙ ap (λ z.
            went (put
            (put (tested s base last (at + 1 + 1 + 1 + 1 + 1) fail (pos 0)) (R T1) (plain (Int z))) (R Pc)
            (plain next))) v) refl refl)

        perm_fails : lin_is c.lin ≡ true → (perm_number c.perm == 2) ≡ false
            → run_of look plain 20 s ≡ failed F4 (pos fail)
        unfolding entry_code
        perm_fails lin e =
            then_fails 8 4 8 s
            (tested s base last (at + 1 + 1 + 1 + 1 + 1 + 1 + 1 + 1) fail (pos 0)) fail (up2 lin)
            (test_fails (tested s base last (at + 1 + 1 + 1 + 1 + 1 + 1 + 1 + 1) fail (pos 0))
            base last (at + 1 + 1 + 1 + 1 + 1 + 1 + 1 + 1) fail (Getp T1 Stk) (pos (perm_number c.perm))
            (pos 2) (seen _) (seen _)
            (code.1.1.1.1.1.1.1.1.0, (code.1.1.1.1.1.1.1.1.1.0, (code.1.1.1.1.1.1.1.1.1.1.0, tt)))
            stops (omega arith) (omega arith) high_fail end_fail tt (search rules)
            (λ next. getp_goes look plain T1 Stk next
            (tested s base last (at + 1 + 1 + 1 + 1 + 1 + 1 + 1 + 1) fail (pos 0)) (Mem c) refl hstk)
            (perm_fits c.perm) (not_zero (perm_number c.perm) 2 (eqb-false (perm_number c.perm) 2 e)))

        base_fails : lin_is c.lin ≡ true → (perm_number c.perm == 2) ≡ true → c.base ≢ sb
            → c.base ≤ LAST_PLACE → sb ≤ LAST_PLACE → run_of look plain 20 s ≡ failed F4 (pos fail)
        unfolding entry_code
        base_fails lin perm ne small_base small_sb =
            then_fails 11 4 5 s
            (tested s base last (at + 1 + 1 + 1 + 1 + 1 + 1 + 1 + 1 + 1 + 1 + 1) fail (pos 0)) fail
            (up3 lin perm)
            (test_fails (tested s base last (at + 1 + 1 + 1 + 1 + 1 + 1 + 1 + 1 + 1 + 1 + 1) fail (pos 0))
            base last (at + 1 + 1 + 1 + 1 + 1 + 1 + 1 + 1 + 1 + 1 + 1) fail (Getb T1 Stk) (pos c.base)
            (pos sb) (seen _) (seen _) (
              code.1.1.1.1.1.1.1.1.1.1.1.0,
              (code.1.1.1.1.1.1.1.1.1.1.1.1.0, (code.1.1.1.1.1.1.1.1.1.1.1.1.1.0, tt)),
            ) stops (omega arith)
            (omega arith) high_fail end_fail tt (small_operand sb small_sb)
            (λ next. getb_goes look plain T1 Stk next
            (tested s base last (at + 1 + 1 + 1 + 1 + 1 + 1 + 1 + 1 + 1 + 1 + 1) fail (pos 0)) (Mem c)
            refl hstk) (fits_less c.base sb small_base small_sb) (not_zero c.base sb ne))

  module _ (s : State W) (base last at sb : ℕ) (h : HasEntry look s.cells base last at sb) where
    abbrev to_fail : ℕ
    to_fail = base + h.fail

    begins_in : base ≤ at
    begins_in = let e = h.at_is in omega (arith, e)

    leads_there : pos at +ℤ distance h.offset h.fail ≡ pos to_fail
    leads_there = leads at base h.offset h.fail h.at_is

    fail_small : to_fail ≤ LAST_PLACE
    fail_small = let e = h.fails.1 in let d = h.small in omega (arith, e, d)

    is_operand : FitsSigned w32 (distance h.offset h.fail)
    is_operand = let e = h.at_is in let f = h.ends in let d = h.small in let g =
        h.fails.1 in near_operand h.offset h.fail (omega (arith, e, f, d)) (omega (arith, g, d))

  pub entry_runs : EntryRuns look plain
  entry_runs s base last at sb c h hpc hstk lin perm is_base order small_end =
      runs s base last at sb (to_fail s base last at sb h)
      h.offset h.fail hpc h.code (begins_in s base last at sb h) h.ends (leads_there s base last at sb h)
      (fail_small s base last at sb h) (is_operand s base last at sb h)
      c hstk lin perm is_base order small_end

  module _ (s : State W) (base last at sb : ℕ) (h : HasEntry look s.cells base last at sb)
      (hpc : look s.regs.pc ≡ Mem (code_cap base last at)) (small_sb : sb ≤ LAST_PLACE) where
    abbrev fail : ℕ
    fail = to_fail s base last at sb h

    from : base ≤ fail
    from = omega arith

    abbrev Fails : Type 0
    Fails = run_of look plain 20 s ≡ failed F4 (pos fail)

    by_word : (x : Word) → look s.regs.stk ≡ x → FaceInOrder (face_of x) → is_stack_at sb (face_of x) ≡ false
        → Fails
    by_word (Int z) e q o =
        no_memory s base last at sb fail h.offset h.fail hpc h.code (begins_in s base last at sb h)
        h.ends (leads_there s base last at sb h) (fail_small s base last at sb h)
        (is_operand s base last at sb h) from h.fails.1 h.fails.0 (Int z) e refl refl
    by_word (Seal z) e q o =
        no_memory s base last at sb fail h.offset h.fail hpc h.code (begins_in s base last at sb h)
        h.ends (leads_there s base last at sb h) (fail_small s base last at sb h)
        (is_operand s base last at sb h) from h.fails.1 h.fails.0 (Seal z) e refl refl
    by_word (Sealed n (MemIn z)) e q o =
        no_memory s base last at sb fail h.offset h.fail hpc h.code (begins_in s base last at sb h)
        h.ends (leads_there s base last at sb h) (fail_small s base last at sb h)
        (is_operand s base last at sb h) from h.fails.1 h.fails.0 (Sealed n (MemIn z)) e refl refl
    by_word (Sealed n (SealIn z)) e q o =
        no_memory s base last at sb fail h.offset h.fail hpc h.code (begins_in s base last at sb h)
        h.ends (leads_there s base last at sb h) (fail_small s base last at sb h)
        (is_operand s base last at sb h) from h.fails.1 h.fails.0 (Sealed n (SealIn z)) e refl refl
    by_word (Mem c) e q o = elim (cases_Bool (lin_is c.lin)) as (λ _. Fails) [
      | inr normal ↦
          normal_fails s base last at sb fail h.offset h.fail hpc h.code (begins_in s base last at sb h)
          h.ends (leads_there s base last at sb h) (fail_small s base last at sb h)
          (is_operand s base last at sb h) c e from h.fails.1 h.fails.0 normal
      | inl lin ↦ elim (cases_Bool (perm_number c.perm == 2)) as (λ _. Fails) [
        | inr other ↦
            perm_fails s base last at sb fail h.offset h.fail hpc h.code (begins_in s base last at sb h)
            h.ends (leads_there s base last at sb h) (fail_small s base last at sb h)
            (is_operand s base last at sb h) c e from h.fails.1 h.fails.0 lin other
        | inl perm ↦ (let g : (c.base == sb) ≡ false = rw (lin, perm) at o in
            base_fails s base last at sb fail h.offset h.fail hpc h.code (begins_in s base last at sb h)
            h.ends (leads_there s base last at sb h) (fail_small s base last at sb h)
            (is_operand s base last at sb h) c e from h.fails.1 h.fails.0 lin perm (eqb-false c.base sb g)
            (omega (arith, q.0, q.1)) small_sb)
      ]
    ]

  pub entry_fails : EntryFails look plain
  entry_fails s base last at sb h hpc order off small_sb =
      by_word s base last at sb h hpc small_sb (look s.regs.stk) refl order off
