-- The rules of the lists: what they say of each item.
use Rattle.std.proofs.Common.{◌≡◌, ℕ, ◌+◌, ◌<◌, ◌≤◌, true, false, length, Option, Some, None, refl, ap, ◌∙◌}
use Rattle.std.specs.Prelude.{nat_lt, option_map, unwrap_or, is_some}
use Rattle.std.proofs.lemmas.Bool.{or_parts, ltb-false}
use Rattle.component_file.specs.declared.component.ComponentFields.{ComponentFields}
use Rattle.component_check.specs.Places.{Test, first_of, first_place}
use Rattle.component_check.proofs.Offers.{IsFirstIn, first_below_is}
use Rattle.call_sequence.specs.declared.TheConstants.{SITE_WORDS}
use Rattle.call_sequence.specs.Standing.{site_difference}
use Rattle.call_sequence.specs.Lists.{site_of, site_is_bad, k1, k2}

-- a rule that has no first place is broken nowhere
pub each_kept : {P : Type 0} (t : Test P) → first_place t ≡ None → (i : ℕ) → i < t.count → t.broken i ≡ false
each_kept t e = by_first (first_of t) (first_below_is t.broken t.count) e
  where
    by_first : (o : Option ℕ) → IsFirstIn t.broken t.count o → option_map t.place o ≡ None → (i : ℕ)
        → i < t.count → t.broken i ≡ false
    by_first None h e = h
    by_first (Some p) h e = cc

-- a rule is broken at its first place
broken_first : {P : Type 0} (t : Test P) (p : ℕ) → Some p ≡ first_of t → t.broken p ≡ true
broken_first t p e = by_first (first_of t) (first_below_is t.broken t.count) e
  where
    by_first : (o : Option ℕ) → IsFirstIn t.broken t.count o → Some p ≡ o → t.broken p ≡ true
    by_first None h e = cc
    by_first (Some q) h e = let same : q ≡ p = cc in rw same at h.1

pub site_room : (c : ComponentFields) (i : ℕ) → site_is_bad c i ≡ false
    → site_of c i + SITE_WORDS ≤ length c.code
site_room c i e =
    ltb-false (length c.code) (site_of c i + SITE_WORDS)
    (or_parts (nat_lt (length c.code) (site_of c i + SITE_WORDS)) _ e).0

-- where K1 is kept, the code has room for each site
pub has_room : (c : ComponentFields) (i : ℕ) → first_place (k1 c) ≡ None → i < length c.sites
    → site_of c i + SITE_WORDS ≤ length c.code
unfolding k1
has_room c i e lt = site_room c i (each_kept (k1 c) e i lt)

-- the place of K2 is the first word of the first site that differs
pub difference_first : (c : ComponentFields) (i : ℕ) → Some i ≡ first_of (k2 c)
    → site_difference c i ≡ first_place (k2 c)
unfolding k2
difference_first c i e =
    by_difference (site_difference c i) refl (broken_first (k2 c) i e)
    ∙ ap (option_map (λ j. unwrap_or (site_difference c j) 0)) e
  where
    by_difference : (o : Option ℕ) → site_difference c i ≡ o → is_some o ≡ true → o ≡ Some (unwrap_or o 0)
    by_difference None d b = cc
    by_difference (Some p) d b = refl
