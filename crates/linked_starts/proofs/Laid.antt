-- Words laid into cells, one after another.
use Rattle.std.proofs.Common.{◌≡◌, ◌≢◌, ℕ, ◌+◌, ◌-◌, ◌≤◌, true, false, List, length, Option, Some, None, refl}
use Rattle.std.proofs.Common.{sym, ap, ◌∙◌, arith, inl, inr, le-leb, lt-ltb, eq-eqb}
use Rattle.std.specs.Prelude.{slice_get, IsSome, nat_le, nat_lt, ◌==◌, if◌then◌else◌}
use Rattle.std.specs.Option.{option_or}
use Rattle.std.proofs.lemmas.Bool.{cases_eq, cases_lt, ne_eqb}
use Rattle.std.proofs.lemmas.Option.{slice_get_past}
use Rattle.std.proofs.lemmas.Bool.Decides.{nat_tests}
use Rattle.cap_words.specs.declared.Word.{Word}
use Rattle.lcm_machine.specs.declared.Place.TheVariants.{Cell}
use Rattle.lcm_machine.specs.Cells.{cell, set_cell}
use Rattle.lcm_machine.specs.Row.{put}
use Rattle.lcm_machine.specs.Run.{Run}
use Rattle.lcm_machine.proofs.Offers.{cell-set_other, cell-set_same}
use Rattle.linked_starts.specs.Laying.{Lays, single}
use Rattle.linked_starts.specs.Start.{from}
use Rattle.linked_starts.proofs.Found.{option_or_assoc}

pub lays_none : (s : Run) → Lays (λ a. None) s s
lays_none s = record { cells = λ a. refl; rest = refl }

-- what was laid last stands
pub lays_then : (f g : ℕ → Option Word) (s t u : Run) → Lays f s t → Lays g t u
    → Lays (λ a. option_or (g a) (f a)) s u
lays_then f g s t u h k = record {
  cells = λ a. k.cells a ∙ ap (λ o. option_or (g a) o) (h.cells a)
      ∙ sym (option_or_assoc (g a) (f a) (cell s.maps.cells a));
  rest = k.rest ∙ ap (λ (r : Run). record r { maps = record r.maps { cells = u.maps.cells } }) h.rest;
}

pub lays_as : (f g : ℕ → Option Word) (s t : Run) → ((a : ℕ) → f a ≡ g a) → Lays f s t → Lays g s t
lays_as f g s t e h =
    record { cells = λ a. h.cells a ∙ ap (λ o. option_or o (cell s.maps.cells a)) (e a); rest = h.rest }

pub lays_put : (s : Run) (at : ℕ) (w : Word)
    → Lays (single at w) s (record s { maps = put s.maps (Cell at) w })
lays_put s at w = record {
  cells = λ a. elim (cases_eq a at)
      as (λ _. cell (set_cell s.maps.cells at w) a ≡ option_or (single at w a) (cell s.maps.cells a)) [
        | inl e ↦
            (let t : (at == at) ≡ true = eq-eqb at at refl in rw (e, t) (cell-set_same s.maps.cells at w))
        | inr ne ↦ (let f = ne_eqb a at ne in rw f (cell-set_other s.maps.cells at a w ne))
      ];
  rest = refl;
}

pub some_right : (x y : Option Word) → IsSome y → IsSome (option_or x y)
some_right None y h = h
some_right (Some w) y h = refl

-- cells that were there still are
pub still_there : (f : ℕ → Option Word) (s t : Run) (a : ℕ) → Lays f s t → IsSome (cell s.maps.cells a)
    → IsSome (cell t.maps.cells a)
still_there f s t a h there = let e = h.cells a in rw e (some_right (f a) (cell s.maps.cells a) there)

-- ---- a list of words

-- those of the offsets below one
abbrev pub upto : ℕ → (ℕ → Option Word) → ℕ → Option Word
upto n f o = if nat_lt o n then f o else None

pub upto_none : (f : ℕ → Option Word) (base a : ℕ) → None ≡ from base (upto 0 f) a
upto_none f base a = grind (arith, nat_tests)

pub upto_more : (f : ℕ → Option Word) (base k : ℕ) (w : Word) → f k ≡ Some w → (a : ℕ)
    → option_or (single (base + k) w a) (from base (upto k f) a) ≡ from base (upto (k + 1) f) a
upto_more f base k w here a =
    elim (cases_eq a (base + k))
    as (λ _. option_or (single (base + k) w a) (from base (upto k f) a) ≡ from base (upto (k + 1) f) a) [
      | inl e ↦ here_is e
      | inr ne ↦ elsewhere ne
    ]
  where
    here_is : a ≡ base + k
        → option_or (single (base + k) w a) (from base (upto k f) a) ≡ from base (upto (k + 1) f) a
    here_is e =
        let t : (a == base + k) ≡ true = eq-eqb a (base + k) e in
        let l : nat_le base a ≡ true = le-leb _ _ (omega arith) in
        let o : a - base ≡ k = omega arith in
        let m : nat_lt k (k + 1) ≡ true = lt-ltb _ _ (omega arith) in
        rw (t, l, o, m) (sym here)

    elsewhere : a ≢ base + k
        → option_or (single (base + k) w a) (from base (upto k f) a) ≡ from base (upto (k + 1) f) a
    elsewhere ne = let n =
        ne_eqb a (base + k) ne in
        rw n (elim (cases_lt a base) as (λ _. from base (upto k f) a ≡ from base (upto (k + 1) f) a) [
          | inl lt ↦ (let l : nat_le base a ≡ false = grind (arith, nat_tests) in rw l refl)
          | inr le ↦
              (let l = le-leb _ _ le in rw l (ap (λ b. if b then f (a - base) else None) (same_test le)))
        ])
      where
        same_test : base ≤ a → nat_lt (a - base) k ≡ nat_lt (a - base) (k + 1)
        same_test le = let d : a - base ≢ k = omega arith in grind (arith, nat_tests)

pub upto_all : (ws : List Word) (base a : ℕ)
    → from base (upto (length ws) (slice_get ws)) a ≡ from base (slice_get ws) a
upto_all ws base a = ap (λ o. if nat_le base a then o else None) (all_of (a - base))
  where
    all_of : (o : ℕ) → upto (length ws) (slice_get ws) o ≡ slice_get ws o
    all_of o = elim (cases_lt o (length ws)) as (λ _. upto (length ws) (slice_get ws) o ≡ slice_get ws o) [
      | inl lt ↦ (let t = lt-ltb _ _ lt in rw t refl)
      | inr le ↦
          (let t : nat_lt o (length ws) ≡ false =
          grind (arith, nat_tests) in rw t (sym (slice_get_past ws o le)))
    ]

-- two words, one after the other
pub lays_two : (s : Run) (at : ℕ) (w v : Word)
    → Lays (λ a. option_or (single (at + 1) v a) (single at w a))
    s (record s { maps = put (put s.maps (Cell at) w) (Cell (at + 1)) v })
lays_two s at w v = lays_then (single at w) (single (at + 1) v) s (record s { maps = put s.maps (Cell at) w })
    (record s { maps = put (put s.maps (Cell at) w) (Cell (at + 1)) v })
    (lays_put s at w) (lays_put (record s { maps = put s.maps (Cell at) w }) (at + 1) v)
