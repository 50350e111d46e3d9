-- What the words of a return do, for words of any kind.
use Rattle.std.proofs.Common.{◌≡◌, ◌≢◌, ℕ, ◌+◌, ◌-◌, ◌≤◌, pos, ℤ, ◌+ℤ◌, ◌-ℤ◌, true, [], ◌∷◌, refl, ap, sym}
use Rattle.std.proofs.Common.{◌∙◌, Some, false, arith, rules, FitsSigned, w32}
use Rattle.std.proofs.lemmas.Int.{ints}
use Rattle.std.specs.Ordering.{nat_cmp}
use Rattle.std.specs.FinMap.{FinMap}
use Rattle.cap_words.specs.declared.Word.{Word}
use Rattle.cap_words.specs.declared.TheConstants.{LAST_PLACE}
use Rattle.cap_words.specs.declared.CapFields.{CapFields}
use Rattle.cap_words.specs.declared.Word.TheVariants.{Int, Mem}
use Rattle.cap_words.specs.Faces.{same_kind}
use Rattle.cap_words.specs.Linear.{is_linear, lin_is, zero_word}
use Rattle.cap_words.specs.declared.Face.TheVariants.{Number}
use Rattle.lcm_isa.specs.declared.Reg.TheVariants.{Stk, Dat, T2}
use Rattle.lcm_isa.specs.declared.Operand.TheVariants.{Imm}
use Rattle.lcm_isa.specs.declared.Instr.TheVariants.{Splice, Fail, Move}
use Rattle.lcm_isa.specs.Numbers.{number_of}
use Rattle.lcm_machine.specs.declared.FailCause.TheVariants.{F4}
use Rattle.lcm_machine.specs.Cells.{cell, set_cell}
use Rattle.lcm_machine.specs.Maps.{State}
use Rattle.lcm_machine.specs.Row.{Outcome, went, faces, look_face, step_of}
use Rattle.lcm_machine.specs.Runs.{run_of, Stands, code_cap}
use Rattle.lcm_machine.proofs.Offers.{is_linear-face, go, ran, stop, stays, leaves, fail_fails, move_goes}
use Rattle.lcm_machine.proofs.Offers.{set_goes, store_goes, load_goes, cca_goes, getb_goes, minus_goes}
use Rattle.lcm_machine.proofs.Offers.{splice_goes, jnz_goes, jnz_jumps, splice_fails, stops, run_one}
use Rattle.lcm_machine.proofs.Offers.{run_then, step_row}
use Rattle.call_sequence.specs.declared.TheConstants.{RETURN_WORDS}
use Rattle.call_sequence.specs.Sequences.{return_code, distance}
use Rattle.call_sequence.specs.SequenceRuns.{stack_cap, IsOutsideRange, HasReturn, ReturnRuns}
use Rattle.call_sequence.specs.SequenceRuns.{ReturnApartFails, ReturnOffBaseFails}
use Rattle.call_sequence.proofs.LawLemmas.{fits_small, small_operand, near_operand, leads, not_zero}
use Rattle.call_sequence.proofs.LawLemmas.{fits_less, Stands-outside}

module _ {W : Type 0} (look : W → Word) (plain : Word → W) where
  pub return_apart : ReturnApartFails look plain
  unfolding return_code faces
  return_apart s base last at sb h hpc cannot =
      let ai = h.at_is in
      let en = h.ends in
      stops look plain s base last at (Splice Stk Stk Dat) hpc (omega (arith, ai)) (omega (arith, en))
      (h.code.0, tt) tt (splice_fails look plain Stk Stk Dat _ s _ _ refl refl refl cannot)

module _ {W : Type 0} (look : W → Word) (plain : Word → W) (seen : (x : Word) → look (plain x) ≡ x) where
  -- the test of where the joined stack begins
  abbrev pub tested : State W → ℕ → ℕ → ℕ → ℕ → CapFields → ℤ → State W
  tested s base last to fail c z = record s {
    regs = record s.regs {
      pc = plain (Mem (code_cap base last to));
      stk = plain (Mem c);
      dat = zero_word plain;
      t1 = plain (Int z);
      t2 = plain (Mem (code_cap base last fail));
    };
  }

  module _ (s : State W) (base last at sb : ℕ) (low high : CapFields)
      (h : HasReturn look s.cells base last at sb) (hpc : look s.regs.pc ≡ Mem (code_cap base last at))
      (hstk : look s.regs.stk ≡ Mem low) (hdat : look s.regs.dat ≡ Mem high)
      (ll : lin_is low.lin ≡ true) (lh : lin_is high.lin ≡ true) (same : same_kind low high ≡ true)
      (joint : low.end + 1 ≡ high.base) (s1 : low.base ≤ LAST_PLACE) (s2 : sb ≤ LAST_PLACE) where
    abbrev pub joined : CapFields
    joined = record high { base = low.base }

    -- the five words before it
    five : (r : Outcome W)
        → step_of look plain
        (tested s base last (at + 1 + 1 + 1 + 1 + 1) (base + h.fail) joined (pos low.base -ℤ pos sb)) ≡ r
        → run_of look plain 6 s ≡ r
    unfolding return_code
    five r e =
        let code = h.code in
        let n : ℤ = distance (h.offset + 3) h.fail in
        let ai = h.at_is in
        let en = h.ends in
        let sm = h.small in
        let fh : base + h.fail ≤ last = h.fails.1 in
        let sf : base + h.fail ≤ 1048575 = omega (arith, fh, sm) in
        let fn : FitsSigned w32 n =
        near_operand (h.offset + 3) h.fail (omega (arith, ai, en, sm)) (omega (arith, sf)) in
        let to_fail : pos (at + 1 + 1 + 1) +ℤ n ≡ pos (base + h.fail) =
        leads (at + 1 + 1 + 1) base (h.offset + 3) h.fail (omega (arith, ai)) in
        go look plain _ _ _ base last (at) _ hpc (omega (arith, ai)) (omega (arith, en))
        code.0 tt
        (splice_goes look plain _ _ _ _ _ _ _ low high refl hstk hdat same joint
        (leaves look plain _ _ (ap is_linear hstk ∙ ll)) (leaves look plain _ _ (ap is_linear hdat ∙ lh)))
        ∙ go look plain _ _ _ base last (at + 1) _ (seen _) (omega (arith, ai)) (omega (arith, en))
        code.1.0 tt (getb_goes look plain _ _ _ _ (Mem joined) refl (seen _))
        ∙ go look plain _ _ _ base last (at + 1 + 1) _ (seen _) (omega (arith, ai)) (omega (arith, en))
        code.1.1.0 (small_operand sb s2)
        (minus_goes look plain _ _ _ _ _ (pos low.base) (pos sb) (pos low.base -ℤ pos sb) refl (seen _)
        refl refl (fits_less low.base sb s1 s2))
        ∙ go look plain _ _ _ base last (at + 1 + 1 + 1) _ (seen _) (omega (arith, ai)) (omega (arith, en))
        code.1.1.1.0 tt
        (move_goes look plain _ _ _ _ _ refl (stays look plain _ _ (ap is_linear (seen _))))
        ∙ go look plain _ _ _ base last (at + 1 + 1 + 1 + 1) _ (seen _) (omega (arith, ai))
        (omega (arith, en))
        code.1.1.1.1.0 fn
        (cca_goes look plain _ _ _ _ (code_cap base last (at + 1 + 1 + 1)) n (pos (base + h.fail))
        refl (seen _) refl to_fail (fits_small (base + h.fail) sf))
        ∙ run_one look plain _ ∙ e

    -- the sixth goes on where it begins at the stack's base, and else to the `fail`
    pub return_tests : low.base ≡ sb
        → run_of look plain 6 s ≡ went (tested s base last (at + 6) (base + h.fail) joined (pos 0))
    unfolding return_code
    return_tests e =
        let code = h.code in
        let ai = h.at_is in
        let en = h.ends in
        let z : pos low.base -ℤ pos sb ≡ pos 0 = omega (arith, ints, e) in
        let next : at + 1 + 1 + 1 + 1 + 1 + 1 ≡ at + 6 = omega arith in
        five _ (step_row look plain _ base last (at + 1 + 1 + 1 + 1 + 1) _ (seen _) (omega (arith, ai))
        (omega (arith, en)) code.1.1.1.1.1.0 tt
        ∙ jnz_goes look plain _ _ _ _ (pos low.base -ℤ pos sb) (seen _) (rw z refl)
        ∙ ap (λ y. went (tested s base last (at + 1 + 1 + 1 + 1 + 1 + 1) (base + h.fail) joined y)) z
        ∙ ap (λ y. went (tested s base last y (base + h.fail) joined (pos 0))) next)

    pub return_turns : low.base ≢ sb
        → run_of look plain 6 s
        ≡ went (tested s base last (base + h.fail) (base + h.fail) joined (pos low.base -ℤ pos sb))
    unfolding return_code
    return_turns ne =
        let code = h.code in
        let ai = h.at_is in
        let en = h.ends in
        five _ (step_row look plain _ base last (at + 1 + 1 + 1 + 1 + 1) _ (seen _) (omega (arith, ai))
        (omega (arith, en)) code.1.1.1.1.1.0 tt
        ∙ jnz_jumps look plain _ _ _ _ _ (pos low.base -ℤ pos sb) (seen _) (not_zero low.base sb ne)
        (stays look plain _ _ (ap is_linear (seen _))))

  -- the stack and the word that was stored are handed back, and t2 is left
  abbrev pub after_return : State W → ℕ → ℕ → ℕ → ℕ → ℕ → ℕ → W → W → State W
  after_return s base last to sb b end w left = record s {
    regs = record s.regs {
      pc = plain (Mem (code_cap base last to));
      stk = plain (Mem (stack_cap sb end b));
      dat = w;
      t1 = zero_word plain;
      t2 = left;
    };
    cells = set_cell s.cells b (zero_word plain);
  }

  -- all words but the last, which leaves T2 to be cleared
  pub return_nine : (s : State W) (base last at sb low b end : ℕ) (to : ℤ) (w : W)
      → (h : HasReturn look s.cells base last at sb)
      → look s.regs.pc ≡ Mem (code_cap base last at)
      → look s.regs.stk ≡ Mem (record (stack_cap sb low 0) { addr = to })
      → look s.regs.dat ≡ Mem (stack_cap b end b)
      → low + 1 ≡ b → sb ≤ b → b ≤ end → end ≤ LAST_PLACE
      → IsOutsideRange b base last → cell s.cells b ≡ Some w → is_linear (look w) ≡ false
      → run_of look plain (RETURN_WORDS - 1) s
      ≡ went (after_return s base last (at + (RETURN_WORDS - 1)) sb b end w
      (plain (Mem (code_cap base last (base + h.fail)))))
  unfolding return_code
  return_nine s base last at sb low b end to w h hpc hstk hdat joint sl le small out there lin =
      let code = h.code in
      let ai = h.at_is in
      let en = h.ends in
      let six : at + 6 ≡ at + 1 + 1 + 1 + 1 + 1 + 1 = omega arith in
      let ends : at + 1 + 1 + 1 + 1 + 1 + 1 + 1 + 1 + 1 ≡ at + (RETURN_WORDS - 1) = omega arith in
      run_then look plain 6 3 s _ _
      (return_tests s base last at sb (record (stack_cap sb low 0) { addr = to }) (stack_cap b end b)
      h hpc hstk hdat refl refl refl joint (omega (arith, sl, le, small)) (omega (arith, sl, le, small))
      refl ∙ ap (λ y. went (tested s base last y (base + h.fail) (stack_cap sb end b) (pos 0))) six)
      (go look plain _ _ _ base last (at + 1 + 1 + 1 + 1 + 1 + 1) _ (seen _) (omega (arith, ai))
      (omega (arith, en))
      code.1.1.1.1.1.1.0 tt
      (load_goes look plain _ _ _ _ (stack_cap sb end b) b w _ refl (seen _)
      refl refl sl le there refl lin (sym (is_linear-face (look w)) ∙ lin))
      ∙ go look plain _ _ _ base last (at + 1 + 1 + 1 + 1 + 1 + 1 + 1) _ (seen _) (omega (arith, ai))
      (omega (arith, en)) code.1.1.1.1.1.1.1.0 (search rules) (set_goes look plain _ _ _ _ refl)
      ∙ go look plain _ _ _ base last (at + 1 + 1 + 1 + 1 + 1 + 1 + 1 + 1) _ (seen _) (omega (arith, ai))
      (omega (arith, en))
      code.1.1.1.1.1.1.1.1.0 tt
      (store_goes look plain _ _ _ _ _ (stack_cap sb end b) b w (seen _)
      refl refl sl le there (stays look plain _ _ (ap is_linear (seen _))))
      ∙ ran look plain _
      ∙ ap (λ k. went (after_return s base last k sb b end w
      (plain (Mem (code_cap base last (base + h.fail)))))) ends)

  -- the last word stands where a cell outside the code was set
  pub clearing_stands : (m : FinMap nat_cmp W) (base last at sb a : ℕ) (w : W)
      → IsOutsideRange a base last → HasReturn look m base last at sb
      → look_face look (cell (set_cell m a w) (at + (RETURN_WORDS - 1)))
      ≡ Some (Number (pos (number_of (Move T2 (Imm (pos 0))))))
  unfolding return_code
  clearing_stands m base last at sb a w out h =
      let ai = h.at_is in
      let en = h.ends in
      let c : Stands look (set_cell m a w) at (return_code h.fail h.offset sb) =
      Stands-outside look m a w base last at (return_code h.fail h.offset sb)
      out (omega (arith, ai)) (omega (arith, en)) h.code in
      let e : at + 1 + 1 + 1 + 1 + 1 + 1 + 1 + 1 + 1 ≡ at + (RETURN_WORDS - 1) = omega arith in
      rw (← e) c.1.1.1.1.1.1.1.1.1.0

  pub return_runs : ReturnRuns look plain
  return_runs s base last at sb low b end to w h hpc hstk hdat joint sl le small out there lin =
      let ai = h.at_is in
      let en = h.ends in
      let ends : at + (RETURN_WORDS - 1) + 1 ≡ at + RETURN_WORDS = omega arith in
      run_then look plain (RETURN_WORDS - 1) 1 s _ _
      (return_nine s base last at sb low b end to w h hpc hstk hdat joint sl le small out there lin)
      (go look plain _ _ _ base last (at + (RETURN_WORDS - 1)) _ (seen _) (omega (arith, ai))
      (omega (arith, en)) (clearing_stands s.cells base last at sb b (zero_word plain) out h) (search rules)
      (set_goes look plain _ _ _ _ refl)
      ∙ ran look plain _
      ∙ ap (λ k. went (after_return s base last k sb b end w (zero_word plain))) ends)

  pub return_off_base : ReturnOffBaseFails look plain
  return_off_base s base last at sb low high h hpc hstk hdat ll lh same joint s1 s2 ne =
      run_then look plain 6 1 s _ _
      (return_turns s base last at sb low high h hpc hstk hdat ll lh same joint s1 s2 ne)
      (let fh = h.fails.1 in stop look plain _ _ base last (base + h.fail) Fail F4 (seen _) (omega arith)
      fh h.fails.0.0 tt (fail_fails look plain _ _))

-- a return stands as before where a cell outside its code is set
pub HasReturn-set : {W : Type 0} (look : W → Word) (m : FinMap nat_cmp W) (base last at sb a : ℕ) (w : W)
    → IsOutsideRange a base last → HasReturn look m base last at sb → HasReturn look
    (set_cell m a w) base last at sb
unfolding return_code
HasReturn-set look m base last at sb a w out h =
    let ai = h.at_is in
    let en = h.ends in
    let fi = h.fails.1 in
    record {
      offset = h.offset;
      fail = h.fail;
      at_is = h.at_is;
      code = Stands-outside look m a w base last at (return_code h.fail h.offset sb) out (omega (arith, ai))
          (omega (arith, en)) h.code;
      ends = h.ends;
      small = h.small;
      fails = (
        Stands-outside look m a w base last (base + h.fail) (Fail ∷ []) out (omega arith)
            (omega (arith, fi)) h.fails.0,
        h.fails.1,
      );
    }
