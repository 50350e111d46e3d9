-- The words of a call, an entry and a return are calm whatever comes of them: all of an entry, and of the
-- others all but the last.
use Rattle.std.proofs.Common.{◌≡◌, ℕ, zero, suc, ◌+◌, ◌-◌, ◌<◌, ◌≤◌, refl, ap, ◌∙◌, arith}
use Rattle.cap_words.specs.declared.TheConstants.{LAST_PLACE}
use Rattle.cap_words.specs.declared.Word.{Word}
use Rattle.cap_words.specs.declared.Word.TheVariants.{Mem}
use Rattle.cap_words.specs.declared.CapFields.{CapFields}
use Rattle.cap_words.specs.declared.Face.TheVariants.{Memory}
use Rattle.lcm_machine.specs.Maps.{State}
use Rattle.lcm_machine.specs.Row.{went, step_of}
use Rattle.lcm_machine.specs.Runs.{and_then, run_of, code_cap}
use Rattle.call_sequence.specs.declared.TheConstants.{CALL_WORDS, ENTRY_WORDS, RETURN_WORDS, SITE_WORDS}
use Rattle.call_sequence.specs.SequenceRuns.{IsOutsideRange, HasCall, HasReturn, HasEntry}
use Rattle.call_sequence.specs.SequenceWords.{AtWord, IsInRange, LoadsOrWipes}
use Rattle.call_sequence.proofs.Offers.{call_words, entry_words, return_words, target_code}
use Rattle.trusted_border.specs.declared.layout.Layout.{Layout}
use Rattle.run_lines.specs.Layout.{site_word}
use Rattle.headline.proofs.alike.Calm.{id, IsQuiet, Calm}
use Rattle.headline.proofs.alike.Laying.{NoEnd, word_none, shown_at}

-- a run is calm if each of its steps that goes is quiet
calm_if : (l : Layout) (n : ℕ) (s : State Word)
    → ((k : ℕ) (t u : State Word) → k < n → run_of id id k s ≡ went t → step_of id id t ≡ went u
    → IsQuiet l t)
    → Calm l n s
unfolding run_of
calm_if l zero s quiet = tt
calm_if l (suc n) s quiet = λ s' goes. (
  quiet 0 s s' (omega arith) refl goes,
  calm_if l n s' (λ k t u lt ran step. quiet (suc k) t u (omega (arith, lt))
      (ap (λ y. and_then y (run_of id id k)) goes ∙ ran) step),
)

module _ (l : Layout) (s : State Word) (base last at : ℕ) where
  -- words of a sequence before an address up to which none is an `xjmp`
  words_calm : (n upto : ℕ) (Also : ℕ → ℕ → Type 0) → base ≤ at → at + n ≤ last + 1 → at + n ≤ upto
      → NoEnd l at (at + n)
      → ((k : ℕ) (t : State Word) → k < n → run_of id id k s ≡ went t
      → AtWord id id base last (at + k) upto (Also k) t) → Calm l n s
  words_calm n upto Also low high top free words =
      calm_if l n s (λ k t u lt ran step.
      let w = words k t lt ran in
      let pc = w.at_pc u step in (
        w.no_jump u step (omega (arith, lt, top)),
        ap (site_word l (SITE_WORDS - 1)) (shown_at t base last (at + k) pc)
            ∙ word_none l (SITE_WORDS - 1) (at + k) (Memory (code_cap base last (at + k)))
            (target_code base last (at + k) (omega (arith, low)) (omega (arith, lt, high)))
            (free (at + k) (omega arith) (omega (arith, lt))),
      ))

  -- where stk's range holds no word of the part
  pub call_calm : (seal : ℕ) (c : CapFields) → HasCall id s.cells base last at seal
      → s.regs.pc ≡ Mem (code_cap base last at)
      → s.regs.stk ≡ Mem c → ((q : ℕ) → IsInRange q c.base c.end → IsOutsideRange q base last)
      → NoEnd l at (at + (CALL_WORDS - 1)) → Calm l (CALL_WORDS - 1) s
  call_calm seal c h pc stk apart free =
      let ai = h.at_is in
      let en = h.ends in
      words_calm (CALL_WORDS - 1) (at + (CALL_WORDS - 1)) (λ k a. IsInRange a c.base c.end)
      (omega (arith, ai))
      (omega (arith, en)) (omega arith) free
      (λ k t lt. call_words id id (λ x. refl) s base last at seal c h pc stk apart k t (omega (arith, lt)))

  pub entry_calm : (sb : ℕ) → HasEntry id s.cells base last at sb → s.regs.pc ≡ Mem (code_cap base last at)
      → sb ≤ LAST_PLACE → NoEnd l at (at + ENTRY_WORDS) → Calm l ENTRY_WORDS s
  entry_calm sb h pc small free =
      let ai = h.at_is in
      let en = h.ends in
      words_calm ENTRY_WORDS (at + ENTRY_WORDS) (λ k a. ⊥) (omega (arith, ai)) (omega (arith, en))
      (omega arith)
      free (entry_words id id (λ x. refl) s base last at sb h pc small)

  pub return_calm : (sb : ℕ) → HasReturn id s.cells base last at sb → s.regs.pc ≡ Mem (code_cap base last at)
      → sb ≤ LAST_PLACE → NoEnd l at (at + (RETURN_WORDS - 1)) → Calm l (RETURN_WORDS - 1) s
  return_calm sb h pc small free =
      let ai = h.at_is in
      let en = h.ends in
      words_calm (RETURN_WORDS - 1) (at + RETURN_WORDS) (λ k a. LoadsOrWipes k) (omega (arith, ai))
      (omega (arith, en)) (omega arith) free
      (return_words id id (λ x. refl) s base last at sb h pc small)
