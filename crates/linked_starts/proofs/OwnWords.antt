-- What the rules C and the format say of the words of a part's own code and data.
use Rattle.std.proofs.Common.{◌≡◌, ℕ, ◌+◌, ◌<◌, ◌≤◌, Bool, true, false, not, length, Some, refl, sym, ap, ◌∙◌}
use Rattle.std.proofs.Common.{arith}
use Rattle.std.specs.Prelude.{slice_get, nat_le, nat_lt, ℤ, ◌&&◌, ◌||◌, if◌then◌else◌}
use Rattle.std.proofs.lemmas.Bool.Decides.{nat_tests}
use Rattle.std.proofs.lemmas.Option.{slice_get_within}
use Rattle.std.proofs.lemmas.Bool.{not-false}
use Rattle.cap_words.specs.declared.Word.{Word}
use Rattle.cap_words.specs.declared.Word.TheVariants.{Int, Mem, Seal, Sealed}
use Rattle.cap_words.specs.declared.CapFields.{CapFields}
use Rattle.cap_words.specs.declared.SealFields.{SealFields}
use Rattle.cap_words.specs.Linear.{lin_is}
use Rattle.cap_words.specs.Faces.{may_run}
use Rattle.cap_words.specs.WordBytes.{WordFits, IsUnsealed}
use Rattle.component_file.specs.declared.component.ComponentFields.{ComponentFields}
use Rattle.component_check.specs.Areas.{code_area, data_area, has_all}
use Rattle.component_check.specs.Verdict.{rule}
use Rattle.component_check.specs.Rules.{c7, c9, c11, words, holds_of, is_foreign, is_own, is_foreign_seal}
use Rattle.component_check.specs.Rules.{is_no_int, rules_c}
use Rattle.linked_starts.specs.Parts.{PartSeen, IsPart, rules_of}
use Rattle.linked_starts.specs.Linked.{HasRange}
use Rattle.linked_starts.proofs.PartKept.{kept, is_kept, range_in}
use Rattle.linked_starts.proofs.StartHeld.{get_left, get_right, word_fits}

-- C7: over the own code; without x over the own data; or, linear and without x, over the own linear area
pub data OwnCap (c : ComponentFields) (m : CapFields) : Type 0 where
  over_code : lin_is m.lin ≡ false → HasRange c.code_base (length c.code) m → OwnCap c m
  over_data : lin_is m.lin ≡ false → may_run m.perm ≡ false → HasRange c.data_base (length c.data_words) m
      → OwnCap c m
  over_linear : lin_is m.lin ≡ true → may_run m.perm ≡ false → HasRange c.linear.base c.linear.count m
      → OwnCap c m

-- C9: a range of the own seals
abbrev pub OwnSeals : ComponentFields → SealFields → Type 0
OwnSeals c s = (c.seals.base ≤ s.base) × (s.end < c.seals.base + c.seals.count)

-- a word that a part may have
abbrev pub OwnWord : ComponentFields → Word → Type 0
OwnWord c (Int n) = Unit {0}
OwnWord c (Mem m) = (m.base ≤ m.end) × OwnCap c m
OwnWord c (Seal s) = (s.base ≤ s.end) × OwnSeals c s
OwnWord c (Sealed o x) = ⊥

-- ---- C7

both_of : (a b : Bool) → (not a && b) ≡ true → (a ≡ false) × (b ≡ true)
both_of true b e = absurd cc
both_of false b e = (refl, e)

cap_is : (c : ComponentFields) (m : CapFields) → is_own c m ≡ true → OwnCap c m
cap_is c m e = by_lin (lin_is m.lin) refl e
  where
    normal : (a : Bool) → has_all (code_area c) m.base m.end ≡ a → lin_is m.lin ≡ false
        → (a || (not (may_run m.perm) && has_all (data_area c) m.base m.end)) ≡ true → OwnCap c m
    normal true is lin h = over_code lin (range_in c.code_base (length c.code) m is)
    normal false is lin h = let b = both_of (may_run m.perm) (has_all (data_area c) m.base m.end) h in
        over_data lin b.0 (range_in c.data_base (length c.data_words) m b.1)

    by_lin : (b : Bool) → lin_is m.lin ≡ b
        → (if b then (not (may_run m.perm) && has_all c.linear m.base m.end)
        else (has_all (code_area c)
        m.base m.end || (not (may_run m.perm) && has_all (data_area c) m.base m.end))) ≡ true
        → OwnCap c m
    by_lin true lin h = let b = both_of (may_run m.perm) (has_all c.linear m.base m.end) h in
        over_linear lin b.0 (range_in c.linear.base c.linear.count m b.1)
    by_lin false lin h = normal (has_all (code_area c) m.base m.end) refl lin h

own_cap : (p : PartSeen) → IsPart p → (k : ℕ) (m : CapFields) → slice_get (words p.component) k ≡ Some (Mem m)
    → OwnCap p.component m
unfolding c7
own_cap p h k m e =
    let fine : holds_of (is_foreign p.component) (slice_get (words p.component) k) ≡ false =
    kept p h 7 k (c7 p.component) refl (slice_get_within (words p.component) k (Mem m) e) in
    cap_is p.component m
    (not-false (is_own p.component m) (sym (ap (holds_of (is_foreign p.component)) e) ∙ fine))

-- ---- C9

own_seals : (p : PartSeen) → IsPart p → (k : ℕ) (s : SealFields)
    → slice_get (words p.component) k ≡ Some (Seal s) → OwnSeals p.component s
unfolding c9
own_seals p h k s e =
    let fine : holds_of (is_foreign_seal p.component) (slice_get (words p.component) k) ≡ false =
    kept p h 9 k (c9 p.component) refl (slice_get_within (words p.component) k (Seal s) e) in
    within p.component.seals.base s.base s.end (p.component.seals.base + p.component.seals.count)
    (sym (ap (holds_of (is_foreign_seal p.component)) e) ∙ fine)
  where
    within : (a b c d : ℕ) → not (nat_le a b && nat_lt c d) ≡ false → (a ≤ b) × (c < d)
    within a b c d e = (grind (arith, nat_tests), grind (arith, nat_tests))

-- ---- all words

pub own_word : (p : PartSeen) → IsPart p → (k : ℕ) (w : Word) → slice_get (words p.component) k ≡ Some w
    → OwnWord p.component w
own_word p h k w e = by_word w e (word_fits p k w (is_kept p h) e)
  where
    by_word : (w : Word) → slice_get (words p.component) k ≡ Some w → WordFits w × IsUnsealed w
        → OwnWord p.component w
    by_word (Int n) e fits = tt
    by_word (Mem m) e fits = (fits.0.0.0, own_cap p h k m e)
    by_word (Seal s) e fits = (fits.0.0.0, own_seals p h k s e)
    by_word (Sealed o x) e fits = fits.1

pub own_code : (p : PartSeen) → IsPart p → (o : ℕ) (w : Word) → slice_get p.component.code o ≡ Some w
    → OwnWord p.component w
own_code p h o w e = own_word p h o w (get_left p.component.code p.component.data_words o w e)

pub own_data : (p : PartSeen) → IsPart p → (o : ℕ) (w : Word) → slice_get p.component.data_words o ≡ Some w
    → OwnWord p.component w
own_data p h o w e =
    own_word p h (length p.component.code + o) w (get_right p.component.code p.component.data_words o w e)

-- C11: a trusted part's data are integers
pub data_number : (p : PartSeen) → IsPart p → p.trusted ≡ true → (o : ℕ) (w : Word)
    → slice_get p.component.data_words o ≡ Some w → (z : ℤ) × (w ≡ Int z)
unfolding c11
data_number p h trusted o w e =
    let eleventh : rule (rules_of p) 11 ≡ Some (c11 p.component) =
    ap (λ b. rule (rules_c p.component b) 11) trusted in
    let fine : holds_of is_no_int (slice_get p.component.data_words o) ≡ false =
    kept p h 11 o (c11 p.component) eleventh (slice_get_within p.component.data_words o w e) in
    by_word w (sym (ap (holds_of is_no_int) e) ∙ fine)
  where
    by_word : (w : Word) → is_no_int w ≡ false → (z : ℤ) × (w ≡ Int z)
    by_word (Int n) f = (n, refl)
    by_word (Mem m) f = absurd cc
    by_word (Seal s) f = absurd cc
    by_word (Sealed o x) f = absurd cc
