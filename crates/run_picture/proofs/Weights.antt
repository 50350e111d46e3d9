-- How long escaped texts are.
use Rattle.std.proofs.Common.{◌≡◌, ℕ, ◌+◌, ◌*◌, ◌^◌, ◌<◌, ◌≤◌, Bool, true, false, List, [], ◌∷◌, ◌++◌}
use Rattle.std.proofs.Common.{length, take, drop, refl, ap, ◌∙◌, arith, length-append}
use Rattle.std.specs.Prelude.{nat_eq, nat_lt, decimal}
use Rattle.std.specs.List.{slice_split, onto_first, position_or_len}
use Rattle.std.proofs.lemmas.Bool.{cond_both}
use Rattle.std.proofs.lemmas.List.{take-append-drop}
use Rattle.std.proofs.lemmas.List.Concat.{flat_map-append}
use Rattle.line_fields.specs.Cuts.{is_mark, cut, parts}
use Rattle.run_picture.specs.Shapes.{escaped_byte, escaped}
use Rattle.run_picture.specs.Events.{EventSeen, events_in}
use Rattle.run_picture.specs.Groups.{behind_blank}
use Rattle.run_picture.specs.LengthLaws.{EscapesAreShort}
use Rattle.run_picture.proofs.Plain.{decimal_plain}

-- ---- a byte

six : (b : ℕ) → length (escaped_byte b) ≤ 6
six b =
    cond_both (nat_eq b 38) _ _ (λ t. length t ≤ 6) (λ e. omega arith) (λ e.
    cond_both (nat_eq b 60) _ _ (λ t. length t ≤ 6) (λ e. omega arith) (λ e.
    cond_both (nat_eq b 62) _ _ (λ t. length t ≤ 6) (λ e. omega arith) (λ e.
    cond_both (nat_eq b 34) _ _ (λ t. length t ≤ 6) (λ e. omega arith) (λ e. omega arith))))

-- ---- texts

unfoldable pub weight : List ℕ → ℕ
weight s = length (escaped s)

pub weight_is : (s : List ℕ) → weight s ≡ length (escaped s)
unfolding weight
weight_is s = refl

pub weight_none : weight [] ≡ 0
unfolding weight
weight_none = refl

weight_more : (b : ℕ) (s : List ℕ) → weight (b ∷ s) ≡ length (escaped_byte b) + weight s
unfolding weight
weight_more b s = length-append (escaped_byte b) (escaped s)

weight_append : (a b : List ℕ) → weight (a ++ b) ≡ weight a + weight b
unfolding weight
weight_append a b = ap length (flat_map-append escaped_byte a b) ∙ length-append (escaped a) (escaped b)

at_most_six : (s : List ℕ) → weight s ≤ 6 * length s
at_most_six [] = omega (arith, weight_none)
at_most_six (b ∷ s) = omega (arith, weight_more b s, six b, at_most_six s)

pub escapes_are_short : EscapesAreShort
unfolding weight
escapes_are_short s = at_most_six s

pub weight_take : (n : ℕ) (s : List ℕ) → weight (take n s) ≤ weight s
weight_take n s = omega (arith, weight_append (take n s) (drop n s), ap weight (take-append-drop n s))

weight_drop : (n : ℕ) (s : List ℕ) → weight (drop n s) ≤ weight s
weight_drop n s = omega (arith, weight_append (take n s) (drop n s), ap weight (take-append-drop n s))

pub weight_behind : (s : List ℕ) → weight (behind_blank (cut 32 s)) ≤ weight s
unfolding cut
weight_behind s =
    let n = position_or_len (is_mark 32) s in
    cond_both (nat_lt n (length s)) _ _ (λ o. weight (behind_blank o) ≤ weight s)
    (λ e. weight_drop (n + 1) s) (λ e. omega (arith, weight_none))

pub weight_decimal : (n : ℕ) → n < 2 ^ 64 → weight (decimal n) ≡ length (decimal n)
unfolding weight
weight_decimal n h = ap length (decimal_plain n h).same

-- ---- parts

abbrev pub weights : List (List ℕ) → ℕ
weights [] = 0
weights (t ∷ ts) = weight t + weights ts

onto : (b : ℕ) (ts : List (List ℕ)) → weights (onto_first b ts) ≤ length (escaped_byte b) + weights ts
onto b [] = omega (arith, weight_more b [], weight_none)
onto b (t ∷ ts) = omega (arith, weight_more b t)

weights_split : (p : ℕ → Bool) (s : List ℕ) → weights (slice_split p s) ≤ weight s
weights_split p [] = omega (arith, weight_none)
weights_split p (b ∷ s) =
    cond_both (p b) _ _ (λ ts. weights ts ≤ weight (b ∷ s))
    (λ e. omega (arith, weight_none, weight_more b s, weights_split p s))
    (λ e. omega (arith, weight_more b s, onto b (slice_split p s), weights_split p s))

pub weights_parts : (mark : ℕ) (s : List ℕ) → weights (parts mark s) ≤ weight s
unfolding parts
weights_parts mark s = weights_split (is_mark mark) s

-- ---- lines

abbrev pub lines_weight : List EventSeen → ℕ
lines_weight [] = 0
lines_weight (e ∷ es) = weight e.line + lines_weight es

pub weights_events : (ts : List (List ℕ)) → lines_weight (events_in ts) ≤ weights ts
weights_events [] = omega arith
weights_events (t ∷ []) = omega arith
weights_events (t ∷ u ∷ us) = omega (arith, weights_events (u ∷ us))
