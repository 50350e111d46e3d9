-- Stretches of cells that are there, are read, and are taken out of memory.
use Rattle.std.proofs.Common.{◌≡◌, ◌≢◌, ◌≤◌, ◌<◌, ℕ, zero, suc, ◌+◌, ◌-◌, true, ◌⊎◌, le-leb, Equal, [], ◌∷◌}
use Rattle.std.proofs.Common.{refl, sym, ap, ◌∙◌, arith, Some, None, IsSome, is_some, IsTrue, inl, inr}
use Rattle.std.specs.Prelude.{◌&&◌, unwrap_or, nat_le, not}
use Rattle.std.specs.Ordering.{nat_cmp}
use Rattle.std.specs.FinMap as map
use Rattle.std.specs.FinMap.{FinMap}
use Rattle.std.proofs.lemmas.Bool.{cases_eq, cases_lt, and_parts, lt-leb, and_right}
use Rattle.cap_words.specs.declared.Word.{Word}
use Rattle.cap_words.specs.Linear.{zero_word}
use Rattle.lcm_machine.specs.Cells.{cell, drop_cell, all_there, words_from, without}
use Rattle.lcm_machine.proofs.CellLemmas.{cell-drop_other, cell_dropped, same_cells}

-- a cell below a stretch doesn't show in it
pub all_there-drop : {W : Type 0} (m : FinMap nat_cmp W) (q a n : ℕ) → q < a
    → all_there (drop_cell m q) a n ≡ all_there m a n
unfolding all_there
all_there-drop m q a zero h = refl
all_there-drop m q a (suc n) h =
    let ne : a ≢ q = omega (arith, h) in
    let e = ap is_some (cell-drop_other m q a ne) in
    let r = all_there-drop m q (a + 1) n (omega (arith, h)) in
    rw (e, r) refl

pub words_from-drop : {W : Type 0} (plain : Word → W) (m : FinMap nat_cmp W) (q a n : ℕ) → q < a
    → words_from plain (drop_cell m q) a n ≡ words_from plain m a n
unfolding words_from
words_from-drop plain m q a zero h = refl
words_from-drop plain m q a (suc n) h =
    let ne : a ≢ q = omega (arith, h) in
    let e = cell-drop_other m q a ne in
    let r = words_from-drop plain m q (a + 1) n (omega (arith, h)) in
    rw (e, r) refl

-- the first of several cells
pub there-first : {W : Type 0} (m : FinMap nat_cmp W) (a n : ℕ) → IsTrue (all_there m a (suc n))
    → IsSome (cell m a) × IsTrue (all_there m (a + 1) n)
unfolding all_there
there-first m a n h = and_parts (is_some (cell m a)) (all_there m (a + 1) n) h

pub words-first : {W : Type 0} (plain : Word → W) (m : FinMap nat_cmp W) (a n : ℕ) (w : W) → cell m a ≡ Some w
    → words_from plain m a (suc n) ≡ w ∷ words_from plain m (a + 1) n
unfolding words_from
words-first plain m a n w e = ap (λ o. unwrap_or o (zero_word plain) ∷ words_from plain m (a + 1) n) e

-- the same, with what is left
pub there-step : {W : Type 0} (m : FinMap nat_cmp W) (a n : ℕ) → 0 < n
    → all_there m a n ≡ (is_some (cell m a) && all_there m (a + 1) (n - 1))
unfolding all_there
there-step m a zero h = absurd (omega (arith, h))
there-step m a (suc n) h = let e : suc n - 1 ≡ n = omega arith in rw e refl

pub there-none : {W : Type 0} (m : FinMap nat_cmp W) (a : ℕ) → all_there m a 0 ≡ true
unfolding all_there
there-none m a = refl

pub words-none : {W : Type 0} (plain : Word → W) (m : FinMap nat_cmp W) (a : ℕ) → words_from plain m a 0 ≡ []
unfolding words_from
words-none plain m a = refl

pub tied_same : (q x : ℕ) → nat_cmp q x ≡ Equal → q ≡ x
tied_same q x h = map.nat_cmp-IsAntisymmetric q x h

pub cell-without_in : {W : Type 0} (m : FinMap nat_cmp W) (a e q : ℕ) → a ≤ q → q ≤ e
    → cell (without m a e) q ≡ None
unfolding without cell
cell-without_in m a e q low high =
    map.get-retain_keys m (λ k. not (nat_le a k && nat_le k e))
    q (λ x h. ap (λ k. not (nat_le a k && nat_le k e)) (sym (tied_same q x h)))
    ∙ rw (le-leb a q low, le-leb q e high) refl

pub cell-without_out : {W : Type 0} (m : FinMap nat_cmp W) (a e q : ℕ) → (q < a) ⊎ (e < q)
    → cell (without m a e) q ≡ cell m q
unfolding without cell
cell-without_out m a e q (inl h) =
    map.get-retain_keys m (λ k. not (nat_le a k && nat_le k e))
    q (λ x g. ap (λ k. not (nat_le a k && nat_le k e)) (sym (tied_same q x g)))
    ∙ rw (lt-leb a q h) refl
cell-without_out m a e q (inr h) =
    map.get-retain_keys m (λ k. not (nat_le a k && nat_le k e))
    q (λ x g. ap (λ k. not (nat_le a k && nat_le k e)) (sym (tied_same q x g)))
    ∙ rw (and_right (nat_le a q) (nat_le q e) (lt-leb q e h)) refl

pub without-empty : {W : Type 0} (m : FinMap nat_cmp W) (a e : ℕ) → e < a → without m a e ≡ m
without-empty m a e h =
    same_cells _ _
    (λ q. cell-without_out m a e q
    (elim (cases_lt q a) [ inl lt ↦ inl lt | inr ge ↦ inr (omega (arith, ge, h)) ]))

pub without-step : {W : Type 0} (m : FinMap nat_cmp W) (a e : ℕ) → a ≤ e
    → without m a e ≡ without (drop_cell m a) (a + 1) e
without-step m a e h = same_cells _ _ (λ q. elim (cases_lt q a) [
  | inl lt ↦
      cell-without_out m a e q (inl lt)
      ∙ sym (cell-without_out (drop_cell m a) (a + 1) e q (inl (omega (arith, lt)))
      ∙ cell-drop_other m a q (let ne : q ≢ a = omega (arith, lt) in ne))
  | inr ge ↦ elim (cases_eq q a) [
    | inl at ↦
        cell-without_in m a e q ge (omega (arith, at, h))
        ∙ sym (cell-without_out (drop_cell m a) (a + 1) e q (inl (omega (arith, at)))
        ∙ ap (cell (drop_cell m a)) at ∙ cell_dropped m a)
    | inr ne ↦ elim (cases_lt e q) [
      | inl past ↦ cell-without_out m a e q (inr past)
          ∙ sym (cell-without_out (drop_cell m a) (a + 1) e q (inr past) ∙ cell-drop_other m a q ne)
      | inr within ↦ cell-without_in m a e q ge within
          ∙ sym (cell-without_in (drop_cell m a) (a + 1) e q (omega (arith, ge, ne)) within)
    ]
  ]
])
