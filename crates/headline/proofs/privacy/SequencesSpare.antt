-- The words of a call, of an entry and of a return that fails touch no address apart from their code and,
-- those of a call, from stk's range.
use Rattle.std.proofs.Common.{◌≡◌, ◌≢◌, inl, inr, ℕ, ◌+◌, ◌≤◌, true, refl, arith}
use Rattle.cap_words.specs.declared.TheConstants.{LAST_PLACE}
use Rattle.cap_words.specs.declared.Word.{Word}
use Rattle.cap_words.specs.declared.Word.TheVariants.{Mem}
use Rattle.cap_words.specs.declared.CapFields.{CapFields}
use Rattle.cap_words.specs.Face.{face_of}
use Rattle.cap_words.specs.Faces.{same_kind}
use Rattle.cap_words.specs.Linear.{lin_is}
use Rattle.lcm_machine.specs.Maps.{State}
use Rattle.lcm_machine.specs.Runs.{code_cap}
use Rattle.lcm_machine.specs.Refusals.{CannotJoin}
use Rattle.lcm_machine.specs.Touched.{Untouched}
use Rattle.call_sequence.specs.declared.TheConstants.{CALL_WORDS, ENTRY_WORDS}
use Rattle.call_sequence.specs.SequenceRuns.{IsOutsideRange, HasCall, HasReturn, HasEntry}
use Rattle.call_sequence.specs.SequenceWords.{IsInRange}
use Rattle.call_sequence.proofs.Offers.{call_words, entry_words, apart_touches, off_touches}
use Rattle.headline.proofs.alike.Calm.{id}
use Rattle.headline.proofs.privacy.TouchAt.{untouched_if}

pub not_inside : (a base last : ℕ) → IsOutsideRange a base last → IsInRange a base last → ⊥
not_inside a base last out y =
    let low = y.0 in
    let high = y.1 in
    elim out as (λ _. ⊥) [ inl z ↦ omega (arith, z, low) | inr z ↦ omega (arith, z, high) ]

module _ (a : ℕ) (s : State Word) (base last at : ℕ) (out : IsOutsideRange a base last)
    (pc : s.regs.pc ≡ Mem (code_cap base last at)) where
  pub call_spares : (seal : ℕ) (c : CapFields) → HasCall id s.cells base last at seal → s.regs.stk ≡ Mem c
      → ((q : ℕ) → c.base ≤ q → q ≤ c.end → IsOutsideRange q base last)
      → ((q : ℕ) → c.base ≤ q → q ≤ c.end → q ≢ a)
      → Untouched id id a CALL_WORDS s
  call_spares seal c h stk apart aside =
      untouched_if a CALL_WORDS s (λ k t lt ran x.
      elim ((call_words id id (λ y. refl) s base last at seal c h pc stk (λ q y. apart q y.0 y.1)
      k t lt ran).touches a x) as (λ _. ⊥)
      [ inl y ↦ not_inside a base last out y | inr y ↦ aside a y.1.0 y.1.1 refl ])

  pub entry_spares : (sb : ℕ) → HasEntry id s.cells base last at sb → sb ≤ LAST_PLACE
      → Untouched id id a ENTRY_WORDS s
  entry_spares sb h small =
      untouched_if a ENTRY_WORDS s (λ k t lt ran x.
      elim ((entry_words id id (λ y. refl) s base last at sb h pc small k t lt ran).touches a x) as (λ _. ⊥)
      [ inl y ↦ not_inside a base last out y | inr y ↦ y.1 ])

  -- a return of what can't be joined
  pub apart_spares : (sb n : ℕ) → HasReturn id s.cells base last at sb → sb ≤ LAST_PLACE
      → CannotJoin (face_of s.regs.stk) (face_of s.regs.dat) → Untouched id id a n s
  apart_spares sb n h small cannot =
      untouched_if a n s (λ k t lt ran x. not_inside a base last out
      (apart_touches id id (λ y. refl) s base last at sb h pc small cannot k t ran a x))

  -- or of what is joined off the stack's base
  pub off_spares : (sb n : ℕ) (low high : CapFields) → HasReturn id s.cells base last at sb → sb ≤ LAST_PLACE
      → s.regs.stk ≡ Mem low → s.regs.dat ≡ Mem high
      → lin_is low.lin ≡ true → lin_is high.lin ≡ true → same_kind low high ≡ true → low.end + 1 ≡ high.base
      → low.base ≤ LAST_PLACE → low.base ≢ sb → Untouched id id a n s
  off_spares sb n low high h small hstk hdat ll lh same joint s1 ne =
      untouched_if a n s (λ k t lt ran x. not_inside a base last out
      (off_touches id id (λ y. refl) s base last at sb h pc small low high hstk hdat ll lh same joint s1 ne
      k t ran a x))
