-- How many cells are in memory.
use Rattle.std.proofs.Common.{◌≡◌, ◌≢◌, ◌≤◌, ◌<◌, ℕ, zero, suc, ◌+◌, ◌-◌, List, [], ◌∷◌, length, refl, sym}
use Rattle.std.proofs.Common.{ap, subst, ◌∙◌, arith, Option, Some, None, IsSome, is_some, IsTrue, inl, inr}
use Rattle.std.specs.Prelude.{if◌then◌else◌}
use Rattle.std.proofs.lemmas.Bool.{cases_eq}
use Rattle.lcm_machine.specs.Cells.{cell, set_cell, drop_cell, put_back, all_there, without}
use Rattle.lcm_machine.proofs.Offers.{cell-set_other, cell-set_same, cell-drop_other, cell_dropped}
use Rattle.lcm_machine.proofs.Offers.{there-first, all_there-drop}
use Rattle.overlay_machine.specs.declared.words.OWord.{OWord}
use Rattle.overlay_machine.specs.State.{Cells}
use Rattle.overlay_machine.specs.Moves.{dropped}
use Rattle.overlay_machine.specs.Machine.{here}
use Rattle.overlay_machine.proofs.CellLemmas.{dropped-first, dropped-none, dropped-without}

abbrev one_if : Option OWord → ℕ
one_if o = if is_some o then 1 else 0

pub here-same : (m m' : Cells) (a n : ℕ) → ((q : ℕ) → is_some (cell m q) ≡ is_some (cell m' q))
    → here m a n ≡ here m' a n
unfolding here
here-same m m' a zero h = refl
here-same m m' a (suc n) h = let r = here-same m m' (a + 1) n h in let e = h a in rw (e, r) refl

here-drop_out : (m : Cells) (q a n : ℕ) → q < a → here (drop_cell m q) a n ≡ here m a n
unfolding here
here-drop_out m q a zero h = refl
here-drop_out m q a (suc n) h =
    let ne : a ≢ q = omega (arith, h) in
    let e = cell-drop_other m q a ne in
    let r = here-drop_out m q (a + 1) n (omega (arith, h)) in
    rw (e, r) refl

here-drop : (m : Cells) (q a n : ℕ) → a ≤ q → q < a + n → IsSome (cell m q)
    → here (drop_cell m q) a n + 1 ≡ here m a n
unfolding here
here-drop m q a zero h g s = absurd (omega (arith, h, g))
here-drop m q a (suc n) h g s = elim (cases_eq a q) [
  | inl e ↦
      (let d : one_if (cell (drop_cell m q) a) ≡ 0 =
      ap (λ k. one_if (cell (drop_cell m q) k)) e ∙ ap one_if (cell_dropped m q) in
      let w : one_if (cell m a) ≡ 1 = ap (λ k. one_if (cell m k)) e ∙ rw s refl in
      let r = here-drop_out m q (a + 1) n (omega (arith, e)) in omega (arith, d, w, r))
  | inr ne ↦
      (let d : one_if (cell (drop_cell m q) a) ≡ one_if (cell m a) = ap one_if (cell-drop_other m q a ne) in
      let r = here-drop m q (a + 1) n (omega (arith, h, ne)) (omega (arith, g)) s in omega (arith, d, r))
]

here-set_out : (m : Cells) (q a n : ℕ) (w : OWord) → q < a → here (set_cell m q w) a n ≡ here m a n
unfolding here
here-set_out m q a zero w h = refl
here-set_out m q a (suc n) w h =
    let ne : a ≢ q = omega (arith, h) in
    let e = cell-set_other m q a w ne in
    let r = here-set_out m q (a + 1) n w (omega (arith, h)) in
    rw (e, r) refl

here-set : (m : Cells) (q a n : ℕ) (w : OWord) → here (set_cell m q w) a n ≤ here m a n + 1
unfolding here
here-set m q a zero w = omega arith
here-set m q a (suc n) w = elim (cases_eq a q) [
  | inl e ↦
      (let d : one_if (cell (set_cell m q w) a) ≡ 1 =
      ap (λ k. one_if (cell (set_cell m q w) k)) e ∙ ap one_if (cell-set_same m q w) in
      let r = here-set_out m q (a + 1) n w (omega (arith, e)) in omega (arith, d, r))
  | inr ne ↦
      (let d : one_if (cell (set_cell m q w) a) ≡ one_if (cell m a) = ap one_if (cell-set_other m q a w ne) in
      let r = here-set m q (a + 1) n w in omega (arith, d, r))
]

here-dropped : (m : Cells) (a n lo k : ℕ) → lo ≤ a → a + n ≤ lo + k → IsTrue (all_there m a n)
    → here (dropped m a n) lo k + n ≡ here m lo k
here-dropped m a zero lo k h g t = let e = ap (λ x. here x lo k) (dropped-none m a) in omega (arith, e)
here-dropped m a (suc n) lo k h g t =
    let f = there-first m a n t in
    let r = here-dropped (drop_cell m a) (a + 1) n lo k (omega (arith, h)) (omega (arith, g))
    (subst IsTrue (sym (all_there-drop m a (a + 1) n (omega arith))) f.1) in
    let d = here-drop m a lo k h (omega (arith, g)) f.0 in
    let e = ap (λ x. here x lo k) (dropped-first m a n) in
    omega (arith, r, d, e)

pub here-without : (m : Cells) (a e lo k : ℕ) → lo ≤ a → a ≤ e → e + 1 ≤ lo + k
    → IsTrue (all_there m a (e + 1 - a)) → here (without m a e) lo k + (e + 1 - a) ≡ here m lo k
here-without m a e lo k h o g t =
    let w = ap (λ x. here x lo k) (dropped-without m a (e + 1 - a) e (omega (arith, o))) in
    let r = here-dropped m a (e + 1 - a) lo k h (omega (arith, g, o)) t in
    omega (arith, w, r)

pub here-put_back : (m : Cells) (a : ℕ) (ws : List OWord) (lo k : ℕ)
    → here (put_back m a ws) lo k ≤ here m lo k + length ws
unfolding put_back
here-put_back m a [] lo k = omega arith
here-put_back m a (w ∷ ws) lo k =
    let r = here-put_back (set_cell m a w) (a + 1) ws lo k in
    let s = here-set m a lo k w in
    omega (arith, r, s)

one-most : (o : Option OWord) → one_if o ≤ 1
one-most None = omega arith
one-most (Some w) = omega arith

pub here-most : (m : Cells) (a n : ℕ) → here m a n ≤ n
unfolding here
here-most m a zero = omega arith
here-most m a (suc n) = let r = here-most m (a + 1) n in let o = one-most (cell m a) in omega (arith, r, o)
