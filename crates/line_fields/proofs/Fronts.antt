-- What stands after a front, and what before a mark that it is free of.
use Rattle.std.proofs.Common.{◌≡◌, ◌≢◌, ℕ, suc, ◌+◌, ◌^◌, ◌<◌, Bool, true, List, [], ◌∷◌, ◌++◌, length}
use Rattle.std.proofs.Common.{length-append, take, drop, Some, refl, sym, ap, ◌∙◌, arith, inl, inr}
use Rattle.std.proofs.lemmas.List.{take-append-drop, take_at, drop_at}
use Rattle.std.proofs.Math.Seq.{drop-append-add}
use Rattle.std.specs.Prelude.{ℤ, pos, negsuc, nat_le, nat_lt, not, ◌==◌, ◌⊎◌, FitsSigned}
use Rattle.std.specs.Int.{w64}
use Rattle.std.specs.Str.{bytes_eq}
use Rattle.std.proofs.lemmas.Slice.Eq.{bytes_eq-Decides}
use Rattle.std.specs.List.{list_all, position_or_len, before_first, after_first}
use Rattle.std.specs.Fmt.{decimal, signed_decimal}
use Rattle.std.proofs.lemmas.Bool.{and_parts, leb-true, lt-ltb, ne_eqb}
use Rattle.std.proofs.lemmas.Bool.Decides.{nat_tests}
use Rattle.cap_words.specs.Names.{is_digit}
use Rattle.line_fields.specs.Cuts.{is_mark, cut, behind}
use Rattle.line_fields.proofs.Numbers.{digits_of_decimal, chosen}

-- ---- fronts of texts

pub behind_front : (front rest : List ℕ) → behind front (front ++ rest) ≡ Some rest
unfolding behind
behind_front front rest =
    let same : bytes_eq front front ≡ true = (bytes_eq-Decides front front).1 refl in
    let one = take_at front rest (length front) refl in
    let two = drop_at front rest (length front) refl in
    rw (one, two, same) refl

pub behind_is : (front text rest : List ℕ) → behind front text ≡ Some rest → text ≡ front ++ rest
unfolding behind
behind_is front text rest h =
    let k = chosen (bytes_eq (take (length front) text) front) (drop (length front) text) rest h in
    let one = (bytes_eq-Decides (take (length front) text) front).0 k.0 in
    sym (take-append-drop (length front) text) ∙ ap (λ l. l ++ drop (length front) text) one
    ∙ ap (λ l. front ++ l) k.1

-- ---- marks

abbrev pub is_free : ℕ → List ℕ → Bool
is_free mark text = list_all (λ b. not (b == mark)) text

same_mark : (m : ℕ) → (m == m) ≡ true
same_mark m = grind (arith, nat_tests)

len_before : (mark : ℕ) (a b : List ℕ) → is_free mark a ≡ true
    → position_or_len (is_mark mark) (a ++ mark ∷ b) ≡ length a
len_before mark [] b h = let e = same_mark mark in rw e refl
len_before mark (x ∷ a) b h =
    let p = and_parts (not (x == mark)) (is_free mark a) h in
    let r = len_before mark a b p.1 in
    let one : not (x == mark) ≡ true = p.0 in
    rw (one, r) (omega arith)

pub cut_front : (mark : ℕ) (a b : List ℕ) → is_free mark a ≡ true → cut mark (a ++ mark ∷ b) ≡ Some (a, b)
unfolding cut
cut_front mark a b h =
    let n = len_before mark a b h in
    let lt : nat_lt (position_or_len (is_mark mark) (a ++ mark ∷ b)) (length (a ++ mark ∷ b)) ≡ true =
    lt-ltb _ _ (omega (arith, n, length-append a (mark ∷ b))) in
    let front : before_first (is_mark mark) (a ++ mark ∷ b) ≡ a =
    ap (λ k. take k (a ++ mark ∷ b)) n ∙ take_at a (mark ∷ b) (length a) refl in
    let back : after_first (is_mark mark) (a ++ mark ∷ b) ≡ b =
    ap (λ k. drop (k + 1) (a ++ mark ∷ b)) n ∙ drop-append-add a (mark ∷ b) 1 in
    rw (lt, front, back) refl

-- ---- digits are no marks

abbrev pub IsNoDigit : ℕ → Type 0
IsNoDigit mark = (mark < 48) ⊎ (57 < mark)

digit_free : (mark b : ℕ) → IsNoDigit mark → is_digit b ≡ true → not (b == mark) ≡ true
digit_free mark b m h =
    let p = and_parts (nat_le 48 b) (nat_le b 57) h in
    let low = leb-true 48 b p.0 in
    let high = leb-true b 57 p.1 in
    ap not (ne_eqb b mark (λ e. elim m [
      | inl x ↦ absurd (omega (arith, e, x, low))
      | inr x ↦ absurd (omega (arith, e, x, high))
    ]))

digits_free : (mark : ℕ) (ds : List ℕ) → IsNoDigit mark → list_all is_digit ds ≡ true
    → is_free mark ds ≡ true
digits_free mark [] m h = refl
digits_free mark (d ∷ ds) m h =
    let p = and_parts (is_digit d) (list_all is_digit ds) h in
    let one = digit_free mark d m p.0 in
    let rest = digits_free mark ds m p.1 in
    rw (one, rest) refl

pub decimal_free : (mark n : ℕ) → IsNoDigit mark → n < 2 ^ 64 → is_free mark (decimal n) ≡ true
decimal_free mark n m h = digits_free mark (decimal n) m (digits_of_decimal n h)

pub signed_free : (mark : ℕ) (z : ℤ) → IsNoDigit mark → mark ≢ 45 → FitsSigned w64 z
    → is_free mark (signed_decimal z) ≡ true
signed_free mark (pos n) m ne h = decimal_free mark n m (omega (arith, h))
signed_free mark (negsuc n) m ne h =
    let one : not (45 == mark) ≡ true = ap not (ne_eqb 45 mark (λ e. ne (sym e))) in
    let rest = decimal_free mark (suc n) m (omega (arith, h)) in
    rw (one, rest) refl
