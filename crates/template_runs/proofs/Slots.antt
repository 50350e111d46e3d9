-- Words in the slots of a frame, and in the data of trusted parts.
use Rattle.std.proofs.Common.{◌≡◌, ◌≢◌, ℕ, zero, suc, ◌+◌, ◌-◌, ◌<◌, ◌≤◌, List, [], ◌∷◌, ◌++◌, length, Some}
use Rattle.std.proofs.Common.{refl, sym, ap, ◌∙◌, subst, arith}
use Rattle.std.specs.Prelude.{slice_get}
use Rattle.lcm_machine.specs.Cells.{cell, set_cell}
use Rattle.lcm_machine.proofs.Offers.{cell-set_other, cell-set_same}
use Rattle.overlay_machine.specs.declared.words.OWord.{OWord}
use Rattle.overlay_machine.specs.State.{Cells}

-- these words stand in the slots from j on, slot j being the cell j below the top
abbrev pub Holds : Cells → ℕ → ℕ → List OWord → Type 0
Holds m top j [] = Unit {0}
Holds m top j (w ∷ ws) = (cell m (top - j) ≡ Some w) × Holds m top (j + 1) ws

-- one of them replaced
abbrev pub with_at : List OWord → ℕ → OWord → List OWord
with_at [] i w = []
with_at (v ∷ vs) zero w = w ∷ vs
with_at (v ∷ vs) (suc i) w = v ∷ with_at vs i w

pub length-with_at : (ws : List OWord) (i : ℕ) (w : OWord) → length (with_at ws i w) ≡ length ws
length-with_at [] i w = refl
length-with_at (v ∷ vs) zero w = refl
length-with_at (v ∷ vs) (suc i) w = ap suc (length-with_at vs i w)

pub holds_get : (m : Cells) (top j : ℕ) (ws : List OWord) (i : ℕ) (w : OWord) → slice_get ws i ≡ Some w
    → Holds m top j ws → cell m (top - (j + i)) ≡ Some w
holds_get m top j [] i w e h = cc
holds_get m top j (v ∷ vs) zero w e h = let z : top - (j + 0) ≡ top - j = omega arith in let s : v ≡ w = cc in
    ap (cell m) z ∙ h.0 ∙ ap Some s
holds_get m top j (v ∷ vs) (suc i) w e h =
    let z : top - (j + suc i) ≡ top - (j + 1 + i) = omega arith in
    ap (cell m) z ∙ holds_get m top (j + 1) vs i w e h.1

-- a cell that is none of these is set
pub holds_other : (m : Cells) (top j : ℕ) (ws : List OWord) (a : ℕ) (w : OWord)
    → ((i : ℕ) → i < length ws → top - (j + i) ≢ a) → Holds m top j ws → Holds (set_cell m a w) top j ws
holds_other m top j [] a w out h = tt
holds_other m top j (v ∷ vs) a w out h =
    let ne : top - j ≢ a =
    (λ e. out 0 (omega arith) (let z : top - (j + 0) ≡ top - j = omega arith in z ∙ e)) in (
      cell-set_other m a (top - j) w ne ∙ h.0,
      holds_other m top (j + 1) vs a w
          (λ i lt e. out (suc i) (omega (arith, lt))
          (let z : top - (j + suc i) ≡ top - (j + 1 + i) = omega arith in z ∙ e)) h.1,
    )

-- a slot is set
pub holds_set : (m : Cells) (top j : ℕ) (ws : List OWord) (i : ℕ) (w : OWord) → i < length ws
    → j + length ws ≤ top + 1 → Holds m top j ws → Holds (set_cell m (top - (j + i)) w) top j (with_at ws i w)
holds_set m top j [] i w lt le h = absurd (omega (arith, lt))
holds_set m top j (v ∷ vs) zero w lt le h =
    let z : top - j ≡ top - (j + 0) = omega arith in (
      ap (cell (set_cell m (top - (j + 0)) w)) z ∙ cell-set_same m (top - (j + 0)) w,
      holds_other m top (j + 1) vs (top - (j + 0)) w
          (λ i li e. absurd (let d : top - (j + 1 + i) ≢ top - (j + 0) = omega (arith, li, le) in d e)) h.1,
    )
holds_set m top j (v ∷ vs) (suc i) w lt le h =
    let z : top - (j + 1 + i) ≡ top - (j + suc i) = omega arith in
    let ne : top - j ≢ top - (j + suc i) = omega (arith, lt, le) in (
      cell-set_other m (top - (j + suc i)) (top - j) w ne
          ∙ h.0,
      subst (λ a. Holds (set_cell m a w) top (j + 1) (with_at vs i w)) z
          (holds_set m top (j + 1) vs i w (omega (arith, lt)) (omega (arith, le)) h.1),
    )

-- a word after them
pub holds_push : (m : Cells) (top j : ℕ) (ws : List OWord) (w : OWord)
    → cell m (top - (j + length ws)) ≡ Some w → Holds m top j ws → Holds m top j (ws ++ w ∷ [])
holds_push m top j [] w e h = let z : top - j ≡ top - (j + 0) = omega arith in (ap (cell m) z ∙ e, tt)
holds_push m top j (v ∷ vs) w e h =
    let z : top - (j + 1 + length vs) ≡ top - (j + length (v ∷ vs)) = omega arith in
    (h.0, holds_push m top (j + 1) vs w (ap (cell m) z ∙ e) h.1)

pub holds_front : (m : Cells) (top j : ℕ) (vs ws : List OWord) → Holds m top j (vs ++ ws) → Holds m top j vs
holds_front m top j [] ws h = tt
holds_front m top j (v ∷ vs) ws h = (h.0, holds_front m top (j + 1) vs ws h.1)

-- other cells that have the same words there
pub holds_same : (m m' : Cells) (top j : ℕ) (ws : List OWord)
    → ((i : ℕ) → i < length ws → cell m' (top - (j + i)) ≡ cell m (top - (j + i))) → Holds m top j ws
    → Holds m' top j ws
holds_same m m' top j [] same h = tt
holds_same m m' top j (v ∷ vs) same h =
    let z : top - j ≡ top - (j + 0) = omega arith in (
      ap (cell m') z ∙ same 0 (omega arith) ∙ ap (cell m) (sym z) ∙ h.0,
      holds_same m m' top (j + 1) vs
          (λ i lt. let y : top - (j + 1 + i) ≡ top - (j + suc i) = omega arith in ap (cell m') y
          ∙ same (suc i) (omega (arith, lt)) ∙ ap (cell m) (sym y)) h.1,
    )

-- ---- one of the words replaced

pub get_with : (ws : List OWord) (i : ℕ) (x : OWord) → i < length ws → slice_get (with_at ws i x) i ≡ Some x
get_with [] i x lt = absurd (omega (arith, lt))
get_with (w ∷ ws) zero x lt = refl
get_with (w ∷ ws) (suc i) x lt = get_with ws i x (omega (arith, lt))

pub get_other : (ws : List OWord) (i j : ℕ) (x : OWord) → j < i
    → slice_get (with_at ws i x) j ≡ slice_get ws j
get_other [] i j x lt = refl
get_other (w ∷ ws) zero j x lt = absurd (omega (arith, lt))
get_other (w ∷ ws) (suc i) zero x lt = refl
get_other (w ∷ ws) (suc i) (suc j) x lt = get_other ws i j x (omega (arith, lt))

-- the same slots below one of them
pub record SameBelow (t : ℕ) (ws ws' : List OWord) : Type 0 where
  pub count : length ws' ≡ length ws
  pub each : (i : ℕ) → i < t → slice_get ws' i ≡ slice_get ws i
