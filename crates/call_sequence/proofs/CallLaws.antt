-- What the words of a call do, for words of any kind.
use Rattle.std.proofs.Common.{◌≡◌, ℕ, zero, suc, ◌+◌, ◌-◌, ◌≤◌, pos, negsuc, ℤ, ◌+ℤ◌, ◌-ℤ◌, true, false, Some}
use Rattle.std.proofs.Common.{refl, ap, ◌∙◌, arith, rules, FitsSigned, w32}
use Rattle.std.proofs.lemmas.Int.{ints}
use Rattle.std.proofs.lemmas.Bool.{lt-leb}
use Rattle.std.specs.Ordering.{nat_cmp}
use Rattle.std.specs.FinMap.{FinMap}
use Rattle.cap_words.specs.declared.Word.{Word}
use Rattle.cap_words.specs.declared.Word.TheVariants.{Int, Mem, Seal}
use Rattle.cap_words.specs.declared.SealFields.{SealFields}
use Rattle.cap_words.specs.Linear.{is_linear}
use Rattle.cap_words.specs.Faces.{can_split}
use Rattle.cap_words.specs.declared.Face.TheVariants.{Number}
use Rattle.lcm_isa.specs.declared.Reg.TheVariants.{Rdata, Stk, Dat, T1, C1, C2}
use Rattle.lcm_isa.specs.declared.Operand.TheVariants.{R as InReg}
use Rattle.lcm_isa.specs.declared.Instr.TheVariants.{Store, Split, Xjmp}
use Rattle.lcm_isa.specs.Numbers.{number_of}
use Rattle.lcm_machine.specs.Maps.{State}
use Rattle.lcm_machine.specs.Cells.{cell, set_cell}
use Rattle.lcm_machine.specs.Table.{fits_64}
use Rattle.lcm_machine.specs.Row.{look_face, row, went}
use Rattle.lcm_machine.specs.Runs.{run_of, Stands, code_cap}
use Rattle.lcm_machine.proofs.Offers.{cell-set_other, go, ran, stays, leaves, number_in, move_goes, set_goes}
use Rattle.lcm_machine.proofs.Offers.{store_goes, load_goes, cca_goes, cca_seal_goes, geta_goes, minus_goes}
use Rattle.lcm_machine.proofs.Offers.{split_goes, cseal_goes, run_then, step_row, run_one, store_fails}
use Rattle.lcm_machine.proofs.Offers.{split_fails, stops, then_failed}
use Rattle.call_sequence.specs.declared.TheConstants.{CALL_WORDS}
use Rattle.call_sequence.specs.Sequences.{call_code, distance}
use Rattle.call_sequence.specs.SequenceRuns.{stack_cap, IsOutsideRange, HasCall, at_xjmp, CallRuns, CallJumps}
use Rattle.call_sequence.specs.SequenceRuns.{CallAtBaseFails, CallOutsideFails}
use Rattle.call_sequence.proofs.LawLemmas.{fits_small, small_operand, near_operand, leads, fits_less}
use Rattle.call_sequence.proofs.LawLemmas.{Stands-outside, differs}

-- the stack can't be split below its base
below_base : (sb se : ℕ) (z : ℤ) → pos sb -ℤ pos 1 ≡ z → can_split (stack_cap sb se sb) z ≡ false
below_base zero se z e = rw (← e) refl
below_base (suc n) se z e = let k : pos (suc n) -ℤ pos 1 ≡ pos n =
    omega (arith, ints) in rw (← e, k) (rw (lt-leb (suc n) n (omega arith)) refl)

module _ {W : Type 0} (look : W → Word) (plain : Word → W) where
  pub call_outside : CallOutsideFails look plain
  unfolding call_code
  call_outside s base last at seal c h hpc hstk out =
      let ai = h.at_is in
      let en = h.ends in
      stops look plain s base last at (Store Stk Dat) hpc (omega (arith, ai)) (omega (arith, en))
      (h.code.0, tt) tt (store_fails look plain Stk Dat _ s c hstk out)

-- the words of a call, once a cell outside the code was set
call_stands : {W : Type 0} (look : W → Word) (m : FinMap nat_cmp W) (base last at seal a : ℕ) (w : W)
    → (h : HasCall look m base last at seal) → IsOutsideRange a base last
    → Stands look (set_cell m a w) at (call_code h.literal h.offset h.number)
unfolding call_code
call_stands look m base last at seal a w h out =
    let ai = h.at_is in
    let en = h.ends in
    Stands-outside look m a w base last at (call_code h.literal h.offset h.number) out (omega (arith, ai))
    (omega (arith, en)) h.code

module _ {W : Type 0} (look : W → Word) (plain : Word → W) (seen : (x : Word) → look (plain x) ≡ x) where
  -- after the first seven words, with stk at an address a: what data held is stored there, t1 is the place
  -- below, and t2 leads to the seal
  abbrev begun : State W → ℕ → ℕ → ℕ → ℕ → ℕ → ℤ → SealFields → State W
  begun s base last seal to a z q = record s {
    regs = record s.regs {
      pc = plain (Mem (code_cap base last to));
      t1 = plain (Int z);
      t2 = plain (Seal (record q { cur = pos seal }));
    };
    cells = set_cell s.cells a s.regs.dat;
  }

  call_begins : (s : State W) (base last at seal sb se a : ℕ) (z : ℤ) (w : W)
      → (h : HasCall look s.cells base last at seal)
      → look s.regs.pc ≡ Mem (code_cap base last at) → look s.regs.stk ≡ Mem (stack_cap sb se a)
      → is_linear (look s.regs.dat) ≡ false → sb ≤ a → a ≤ se
      → IsOutsideRange a base last → cell s.cells a ≡ Some w → pos a -ℤ pos 1 ≡ z → fits_64 z ≡ true
      → run_of look plain 7 s ≡ went (begun s base last seal (at + 1 + 1 + 1 + 1 + 1 + 1 + 1) a z h.seals)
  unfolding call_code
  call_begins s base last at seal sb se a z w h hpc hstk hdat sa ah out there below fz =
      let q = h.seals in
      let lit = base + h.literal in
      let n : ℤ = distance (h.offset + 1) h.literal in
      let ai = h.at_is in
      let en = h.ends in
      let sm = h.small in
      let ll : base ≤ lit = omega arith in
      let lh : lit ≤ last = h.literal_in in
      let fn : FitsSigned w32 n =
      near_operand (h.offset + 1) h.literal (omega (arith, ai, en, sm)) (omega (arith, lh, sm)) in
      let ss = h.small_seal in
      let si = h.seal_is in
      let fs : FitsSigned w32 (pos h.number) = small_operand h.number (omega (arith, si, ss)) in
      let e : pos (at + 1) +ℤ n ≡ pos lit =
      leads (at + 1) base (h.offset + 1) h.literal (omega (arith, ai)) in
      let cur : q.cur +ℤ pos h.number ≡ pos seal = ap (λ z. z +ℤ pos h.number) h.first ∙ ap pos si in
      let flit : fits_64 (pos lit) ≡ true = fits_small lit (omega (arith, lh, sm)) in
      let fseal : fits_64 (pos seal) ≡ true = fits_small seal ss in
      let m' : FinMap nat_cmp W = set_cell s.cells a s.regs.dat in
      let c = call_stands look s.cells base last at seal a s.regs.dat h out in
      let literal' : cell m' lit ≡ Some h.word =
      cell-set_other s.cells a lit _ (differs a base last lit out ll lh) ∙ h.word_is in
      go look plain _ _ _ base last (at) _ hpc (omega (arith, ai)) (omega (arith, en))
      h.code.0 tt
      (store_goes look plain _ _ _ _ _ (stack_cap sb se a) a w hstk refl refl sa
      ah there (stays look plain _ _ hdat))
      ∙ go look plain _ _ _ base last (at + 1) _ (seen _) (omega (arith, ai)) (omega (arith, en))
      c.1.0 tt (move_goes look plain _ _ _ _ _ refl (stays look plain _ _ (ap is_linear (seen _))))
      ∙ go look plain _ _ _ base last (at + 1 + 1) _ (seen _) (omega (arith, ai)) (omega (arith, en))
      c.1.1.0 fn
      (cca_goes look plain _ _ _ _ (code_cap base last (at + 1)) n (pos lit) refl (seen _) refl e flit)
      ∙ go look plain _ _ _ base last (at + 1 + 1 + 1) _ (seen _) (omega (arith, ai)) (omega (arith, en))
      c.1.1.1.0 tt
      (load_goes look plain _ _ _ _ (code_cap base last lit) lit h.word (Seal q) refl (seen _)
      refl refl ll lh literal' h.shows refl refl)
      ∙ go look plain _ _ _ base last (at + 1 + 1 + 1 + 1) _ (seen _) (omega (arith, ai)) (omega (arith, en))
      c.1.1.1.1.0 fs
      (cca_seal_goes look plain _ _ _ _ q (pos h.number) (pos seal) refl h.shows refl cur fseal)
      ∙ go look plain _ _ _ base last (at + 1 + 1 + 1 + 1 + 1) _ (seen _) (omega (arith, ai))
      (omega (arith, en))
      c.1.1.1.1.1.0 tt (geta_goes look plain _ _ _ _ (Mem (stack_cap sb se a)) refl hstk)
      ∙ go look plain _ _ _ base last (at + 1 + 1 + 1 + 1 + 1 + 1) _ (seen _) (omega (arith, ai))
      (omega (arith, en)) c.1.1.1.1.1.1.0 (search rules)
      (minus_goes look plain _ _ _ _ _ (pos a) (pos 1) z refl (seen _) refl below fz)
      ∙ ran look plain _

  pub call_runs : CallRuns look plain
  unfolding call_code
  call_runs s base last at seal sb se b w h hpc hstk hdat sl sh small out there =
      let q = h.seals in
      let ai = h.at_is in
      let en = h.ends in
      let sm = h.small in
      let si = h.seal_is in
      let c = call_stands look s.cells base last at seal (b + 1) s.regs.dat h out in
      let fb : fits_64 (pos b) ≡ true = fits_small b (omega (arith, sh, small)) in
      let minus1 : pos (b + 1) -ℤ pos 1 ≡ pos b = omega (arith, ints) in
      let minus2 : pos (b + 1) +ℤ negsuc 0 ≡ pos b = omega (arith, ints) in
      let six : at + 1 + 1 + 1 + 1 + 1 + 1 + 1 + 1 + 1 + 1 + 6 ≡ at + 16 = omega arith in
      let fsix : fits_64 (pos (at + 16)) ≡ true = fits_small (at + 16) (omega (arith, en, sm)) in
      let ends : at + 1 + 1 + 1 + 1 + 1 + 1 + 1 + 1 + 1 + 1 + 1 + 1 + 1 + 1 + 1 ≡ at + 15 = omega arith in
      let ql : q.base ≤ seal = omega (arith, si) in
      run_then look plain 7 8 s _ _
      (call_begins s base last at seal sb se (b + 1) (pos b) w h hpc hstk hdat (omega (arith, sl)) sh out
      there minus1 fb)
      (go look plain _ _ _ base last (at + 1 + 1 + 1 + 1 + 1 + 1 + 1) _ (seen _) (omega (arith, ai))
      (omega (arith, en))
      c.1.1.1.1.1.1.1.0 tt
      (split_goes look plain _ _ _ _ _ _ _ (stack_cap sb se (b + 1))
      b refl refl hstk (number_in look plain _ _ (pos b) (seen _)) sl (omega arith)
      (leaves look plain _ _ (ap is_linear hstk)))
      ∙ go look plain _ _ _ base last (at + 1 + 1 + 1 + 1 + 1 + 1 + 1 + 1) _ (seen _) (omega (arith, ai))
      (omega (arith, en)) c.1.1.1.1.1.1.1.1.0 (search rules)
      (cca_goes look plain _ _ _ _ (stack_cap sb b (b + 1)) (negsuc 0) (pos b) refl (seen _)
      refl minus2 fb)
      ∙ go look plain _ _ _ base last (at + 1 + 1 + 1 + 1 + 1 + 1 + 1 + 1 + 1) _ (seen _) (omega (arith, ai))
      (omega (arith, en))
      c.1.1.1.1.1.1.1.1.1.0 tt
      (cseal_goes look plain _ _ _ _ (stack_cap (b + 1) se (b + 1)) (record q { cur = pos seal })
      seal refl (seen _) (seen _) refl ql h.seal_in)
      ∙ go look plain _ _ _ base last (at + 1 + 1 + 1 + 1 + 1 + 1 + 1 + 1 + 1 + 1) _ (seen _)
      (omega (arith, ai)) (omega (arith, en))
      c.1.1.1.1.1.1.1.1.1.1.0 tt
      (move_goes look plain _ _ _ _ _ refl (stays look plain _ _ (ap is_linear (seen _))))
      ∙ go look plain _ _ _ base last (at + 1 + 1 + 1 + 1 + 1 + 1 + 1 + 1 + 1 + 1 + 1) _ (seen _)
      (omega (arith, ai)) (omega (arith, en)) c.1.1.1.1.1.1.1.1.1.1.1.0 (search rules)
      (cca_goes look plain _ _ _ _ (code_cap base last (at + 1 + 1 + 1 + 1 + 1 + 1 + 1 + 1 + 1 + 1))
      (pos 6) (pos (at + 16)) refl (seen _) refl (ap pos six) fsix)
      ∙ go look plain _ _ _ base last (at + 1 + 1 + 1 + 1 + 1 + 1 + 1 + 1 + 1 + 1 + 1 + 1) _ (seen _)
      (omega (arith, ai)) (omega (arith, en))
      c.1.1.1.1.1.1.1.1.1.1.1.1.0 tt
      (cseal_goes look plain _ _ _ _ (code_cap base last (at + 16)) (record q { cur = pos seal })
      seal refl (seen _) (seen _) refl ql h.seal_in)
      ∙ go look plain _ _ _ base last (at + 1 + 1 + 1 + 1 + 1 + 1 + 1 + 1 + 1 + 1 + 1 + 1 + 1) _ (seen _)
      (omega (arith, ai)) (omega (arith, en)) c.1.1.1.1.1.1.1.1.1.1.1.1.1.0 (search rules)
      (set_goes look plain _ _ _ _ refl)
      ∙ go look plain _ _ _ base last (at + 1 + 1 + 1 + 1 + 1 + 1 + 1 + 1 + 1 + 1 + 1 + 1 + 1 + 1) _ (seen _)
      (omega (arith, ai)) (omega (arith, en)) c.1.1.1.1.1.1.1.1.1.1.1.1.1.1.0 (search rules)
      (set_goes look plain _ _ _ _ refl)
      ∙ ran look plain _
      ∙ ap (λ k.
      went (record (at_xjmp plain s base last at seal sb se b) {
        regs = record (at_xjmp plain s base last at seal sb se b).regs
            { pc = plain (Mem (code_cap base last k)) };
      })) ends)

  -- the call's last word, once a cell outside the code was set
  pub xjmp_stands : (m : FinMap nat_cmp W) (base last at seal a : ℕ) (w : W)
      → HasCall look m base last at seal
      → IsOutsideRange a base last
      → look_face look (cell (set_cell m a w) (at + (CALL_WORDS - 1)))
      ≡ Some (Number (pos (number_of (Xjmp C1 C2))))
  unfolding call_code
  xjmp_stands m base last at seal a w h out =
      let c = call_stands look m base last at seal a w h out in
      let e : at + 1 + 1 + 1 + 1 + 1 + 1 + 1 + 1 + 1 + 1 + 1 + 1 + 1 + 1 + 1 ≡ at + (CALL_WORDS - 1) =
      omega arith in
      rw (← e) c.1.1.1.1.1.1.1.1.1.1.1.1.1.1.1.0

  pub call_jumps : CallJumps look plain
  call_jumps s base last at seal sb se b w h hpc hstk hdat sl sh small out there =
      let ai = h.at_is in
      let en = h.ends in
      let t : State W = at_xjmp plain s base last at seal sb se b in
      let e : at + (CALL_WORDS - 1) + 1 ≡ at + CALL_WORDS = omega arith in
      run_then look plain (CALL_WORDS - 1) 1 s t _
      (call_runs s base last at seal sb se b w h hpc hstk hdat sl sh small out there)
      (run_one look plain t
      ∙ step_row look plain t base last (at + (CALL_WORDS - 1)) (Xjmp C1 C2) (seen _) (omega (arith, ai))
      (omega (arith, en)) (xjmp_stands s.cells base last at seal (b + 1) s.regs.dat h out) tt
      ∙ ap (λ k. row look plain (Xjmp C1 C2) (Mem (code_cap base last k)) t) e)

  pub call_at_base : CallAtBaseFails look plain
  unfolding call_code
  call_at_base s base last at seal sb se w h hpc hstk hdat sh small out there =
      let ai = h.at_is in
      let en = h.ends in
      let c = call_stands look s.cells base last at seal sb s.regs.dat h out in
      let z : ℤ = pos sb -ℤ pos 1 in
      let fz : fits_64 z ≡ true = fits_less sb 1 (omega (arith, sh, small)) (omega arith) in
      let ends : at + 1 + 1 + 1 + 1 + 1 + 1 + 1 ≡ at + 7 = omega arith in
      let t : State W = begun s base last seal (at + 7) sb z h.seals in
      let to_split : run_of look plain 7 s ≡ went t =
      call_begins s base last at seal sb se sb z w h hpc hstk hdat (omega arith) sh out there refl fz
      ∙ ap (λ k. went (begun s base last seal k sb z h.seals)) ends in
      then_failed look plain 7 1 s t to_split
      (stops look plain t base last (at + 7) (Split Stk Rdata Stk (InReg T1)) (seen _) (omega (arith, ai))
      (omega (arith, en)) (rw (← ends) c.1.1.1.1.1.1.1.0, tt) tt
      (split_fails look plain Stk Rdata Stk (InReg T1) _ t (stack_cap sb se sb)
      z refl refl hstk (number_in look plain t T1 z (seen _)) (below_base sb se _ refl)))
