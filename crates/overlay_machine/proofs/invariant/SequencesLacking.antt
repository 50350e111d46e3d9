-- A sequence stands without a cell outside its part's code.
use Rattle.std.proofs.Common.{◌≡◌, ◌≢◌, inl, inr, ℕ, ◌+◌, ◌≤◌, List, [], ◌∷◌, length, Some, sym, ap, ◌∙◌}
use Rattle.std.proofs.Common.{arith}
use Rattle.cap_words.specs.declared.Word.{Word}
use Rattle.lcm_isa.specs.declared.Instr.{Instr}
use Rattle.lcm_isa.specs.declared.Instr.TheVariants.{Fail}
use Rattle.lcm_machine.specs.Maps.{State}
use Rattle.lcm_machine.specs.Cells.{cell}
use Rattle.lcm_machine.specs.Row.{look_face}
use Rattle.lcm_machine.specs.Runs.{Stands}
use Rattle.lcm_machine.proofs.Offers.{lacking, lacks}
use Rattle.call_sequence.specs.Sequences.{call_code, return_code, entry_code}
use Rattle.call_sequence.specs.SequenceRuns.{IsOutsideRange, HasCall, HasReturn, HasEntry, FailsAt}

module _ (a : ℕ) (t : State Word) (base last : ℕ) (out : IsOutsideRange a base last) where
  differs : (q : ℕ) → base ≤ q → q ≤ last → q ≢ a
  differs q low high =
      elim out as (λ _. q ≢ a) [ inl x ↦ omega (arith, x, low) | inr x ↦ omega (arith, x, high) ]

  there : (q : ℕ) (x : Word) → base ≤ q → q ≤ last → cell t.cells q ≡ Some x
      → cell (lacking a t).cells q ≡ Some x
  there q x low high e = sym ((lacks a t).others q (differs q low high)) ∙ e

  stands : (at : ℕ) (is : List Instr) → base ≤ at → at + length is ≤ last + 1 → Stands (λ w. w) t.cells at is
      → Stands (λ w. w) (lacking a t).cells at is
  stands at [] low high h = tt
  stands at (i ∷ is) low high h = (
    ap (look_face (λ w. w)) (sym ((lacks a t).others at (differs at low (omega (arith, high))))) ∙ h.0,
    stands (at + 1) is (omega (arith, low)) (omega (arith, high)) h.1,
  )

  pub call_lacking : (at seal : ℕ) → HasCall (λ w. w) t.cells base last at seal
      → HasCall (λ w. w) (lacking a t).cells base last at seal
  unfolding call_code
  call_lacking at seal h =
      let ai = h.at_is in
      let en = h.ends in
      record {
        offset = h.offset;
        literal = h.literal;
        number = h.number;
        at_is = h.at_is;
        code = stands at (call_code h.literal h.offset h.number) (omega (arith, ai)) (omega (arith, en))
            h.code;
        ends = h.ends;
        small = h.small;
        literal_in = h.literal_in;
        word = h.word;
        word_is = there (base + h.literal) h.word (omega arith) h.literal_in h.word_is;
        seals = h.seals;
        shows = h.shows;
        first = h.first;
        seal_is = h.seal_is;
        seal_in = h.seal_in;
        small_seal = h.small_seal;
      }

  fails_lacking : (fail : ℕ) → FailsAt (λ w. w) t.cells base last fail
      → FailsAt (λ w. w) (lacking a t).cells base last fail
  fails_lacking fail h = let en =
      h.1 in (stands (base + fail) (Fail ∷ []) (omega arith) (omega (arith, en)) h.0, h.1)

  pub return_lacking : (at stack_base : ℕ) → HasReturn (λ w. w) t.cells base last at stack_base
      → HasReturn (λ w. w) (lacking a t).cells base last at stack_base
  unfolding return_code
  return_lacking at stack_base h =
      let ai = h.at_is in
      let en = h.ends in
      record {
        offset = h.offset;
        fail = h.fail;
        at_is = h.at_is;
        code = stands at (return_code h.fail h.offset stack_base) (omega (arith, ai)) (omega (arith, en))
            h.code;
        ends = h.ends;
        small = h.small;
        fails = fails_lacking h.fail h.fails;
      }

  pub entry_lacking : (at stack_base : ℕ) → HasEntry (λ w. w) t.cells base last at stack_base
      → HasEntry (λ w. w) (lacking a t).cells base last at stack_base
  unfolding entry_code
  entry_lacking at stack_base h =
      let ai = h.at_is in
      let en = h.ends in
      record {
        offset = h.offset;
        fail = h.fail;
        at_is = h.at_is;
        code = stands at (entry_code h.fail h.offset stack_base) (omega (arith, ai)) (omega (arith, en))
            h.code;
        ends = h.ends;
        small = h.small;
        fails = fails_lacking h.fail h.fails;
      }
