-- The set of no places, in which each leads to itself.
use Rattle.std.proofs.Common.{◌≡◌, ℕ, ◌+◌, ◌<◌, ◌≤◌, false, List, [], ◌∷◌, ◌++◌, length, inl, inr, sym, ap}
use Rattle.std.proofs.Common.{subst, ◌∙◌, arith}
use Rattle.std.specs.Prelude.{slice_index}
use Rattle.std.proofs.lemmas.Bool.{cases_eq, cases_lt, le-ltb}
use Rattle.std.proofs.lemmas.List.{length_push, get_or_push, get_or_append_left, get_or_past}
use Rattle.cap_words.specs.declared.TheConstants.{LAST_PLACE}
use Rattle.authority_report.specs.Has.{has, IsSet}

-- so many places, each of which leads to itself
abbrev pub LeadNowhere : List ℕ → ℕ → Type 0
LeadNowhere next n = (length next ≡ n) × ((a : ℕ) → a < n → slice_index next a ≡ a)

pub one_place_more : (next : List ℕ) (n : ℕ) → LeadNowhere next n → LeadNowhere (next ++ n ∷ []) (n + 1)
one_place_more next n h = (
  length_push next n ∙ ap (λ k. k + 1) h.0,
  λ a lt. elim (cases_eq a n) as (λ _. slice_index (next ++ n ∷ []) a ≡ a) [
    | inl same ↦ subst (λ k. slice_index (next ++ n ∷ []) k ≡ k) (sym same) (get_or_push next n 0 n h.0)
    | inr ne ↦ get_or_append_left next (n ∷ []) 0 a (let l = h.0 in omega (arith, l, lt, ne))
        ∙ h.1 a (omega (arith, lt, ne))
  ],
)

module _ (next : List ℕ) (n : ℕ) (h : LeadNowhere next n) where
  leads_back : (a : ℕ) → slice_index next a ≤ a
  leads_back a = elim (cases_lt a n) as (λ _. slice_index next a ≤ a) [
    | inl lt ↦ omega (arith, h.1 a lt)
    | inr ge ↦ omega (arith, get_or_past next a 0 (let l = h.0 in omega (arith, l, ge)))
  ]

  -- none is in it
  pub none_has : (a : ℕ) → has next a ≡ false
  none_has a = le-ltb a (slice_index next a) (leads_back a)

  inside : (a : ℕ) → slice_index next a ≤ length next
  inside a = elim (cases_lt a n) as (λ _. slice_index next a ≤ length next) [
    | inl lt ↦ (let l = h.0 in omega (arith, h.1 a lt, l, lt))
    | inr ge ↦ omega (arith, get_or_past next a 0 (let l = h.0 in omega (arith, l, ge)))
  ]

  pub no_places : n ≡ LAST_PLACE + 1 → IsSet next
  no_places all = record {
    size = h.0 ∙ all;
    up = λ a lt. (let e = h.1 a (let l = h.0 in omega (arith, l, lt)) in omega (arith, e));
    inside = inside;
    skips = λ a b low high. absurd (let k = leads_back a in omega (arith, low, high, k));
  }
