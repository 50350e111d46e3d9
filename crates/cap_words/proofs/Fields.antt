-- The readers of numbers and of what numbers mean.
use Rattle.std.proofs.Common.{◌≡◌, ℕ, ◌+◌, ◌^◌, ◌<◌, ◌≤◌, Bool, true, false, cond, ltb, leb, ◌&&◌, List, []}
use Rattle.std.proofs.Common.{◌∷◌, ◌++◌, length, get_or, take, drop, Option, Some, None, Ok, Err, refl, sym}
use Rattle.std.proofs.Common.{ap, subst, ◌∙◌, arith, length-append, inl, inr}
use Rattle.std.specs.Int.{w64, cast_signed, cast_unsigned}
use Rattle.std.specs.Int.RustNames.{FitsSigned}
use Rattle.std.proofs.lemmas.Bool.{cases_lt, ltb-false, le-ltb, lt-ltb}
use Rattle.std.proofs.lemmas.List.{take_at, drop_at, take-append-drop, length-take, get_or-drop, get_or-take}
use Rattle.std.proofs.lemmas.List.{get_or_past}
use Rattle.std.proofs.lemmas.Int.{of_z-to_z, to_z-of_z}
use Rattle.std.proofs.Math.Facts.{sfits_to_z, Fits-of_z}
use Rattle.cap_words.specs.declared.bytes.cursor.FieldFault.{FieldFault}
use Rattle.cap_words.specs.declared.bytes.cursor.FieldFault.TheVariants.{Short, BadField}
use Rattle.readers.specs.Readers.{Reader, goes_on, ◌>>=◌, done, unless_none}
use Rattle.cap_words.specs.Reading.{Input, next_bytes, meant, next_byte, next_number, next_signed, within}
use Rattle.cap_words.specs.WordBytes.{number_bytes, signed_bytes}
use Rattle.byteorder.specs.Endian.{little_number, little_bytes}
use Rattle.byteorder.specs.Numbers.{little_from-lt, length-bytes_low_first}
use Rattle.cap_words.proofs.Numbers.{read_again, spelled_again}
use Rattle.readers.proofs.Offers.{after, before, IsCut, cut_goes_on, All, goes_on_ok, ok_value, some_ok}
use Rattle.readers.proofs.Offers.{reads_placed}
use Rattle.cap_words.proofs.ByteReads.{IsBytes, Took, Reads}

is_bytes_drop : (n : ℕ) (bytes : List ℕ) → IsBytes bytes → IsBytes (drop n bytes)
is_bytes_drop n bytes h i = rw get_or-drop (h (n + i))

is_bytes_take : (n : ℕ) (bytes : List ℕ) → IsBytes bytes → IsBytes (take n bytes)
is_bytes_take n bytes h i =
    elim (cases_lt i n) [
      | inl lt ↦ rw (get_or-take n bytes i 0 lt) (h i)
      | inr le ↦ rw (get_or_past (take n bytes) i 0 (omega (arith, length-take n bytes))) (omega arith)
    ]

guard_ok : {A : Type 0} (b : Bool) (d : FieldFault) (x : A × Input) (y : A) (j : Input)
    → cond b (Err d) (Ok x) ≡ Ok (y, j) → (b ≡ false) × (x.0 ≡ y) × (x.1 ≡ j)
guard_ok true d x y j e = absurd cc
guard_ok false d x y j e = let both = ok_value x.0 y x.1 j e in (refl, both.0, both.1)

-- ---- bytes

pub bytes_take : (n : ℕ) (i : Input) (text : List ℕ) (j : Input) → IsBytes i.rest
    → next_bytes n i ≡ Ok (text, j) → (length text ≡ n) × IsBytes text × Took i text j
unfolding next_bytes
bytes_take n i text j bytes e =
    let g = guard_ok (ltb (length i.rest) n) (Short i.at)
    (take n i.rest, record { at = i.at + n; rest = drop n i.rest }) text j e in
    let long : n ≤ length i.rest = ltb-false _ _ g.0 in
    let len : length (take n i.rest) ≡ n = omega (arith, length-take n i.rest) in
    let took : Took i (take n i.rest) (record { at = i.at + n; rest = drop n i.rest }) = record {
      parts = sym (take-append-drop n i.rest);
      at = omega (arith, len);
      good = is_bytes_drop n i.rest bytes;
    } in
    subst (λ t. (length t ≡ n) × IsBytes t × Took i t j) g.1
    (len, is_bytes_take n i.rest bytes, subst (λ k. Took i (take n i.rest) k) g.2 took)

pub bytes_again : (n : ℕ) (text : List ℕ) (at : ℕ) (rest : List ℕ) → length text ≡ n
    → next_bytes n (before at text rest) ≡ Ok (text, after at text rest)
unfolding next_bytes
bytes_again n text at rest len =
    let long : ltb (length (text ++ rest)) n ≡ false = le-ltb _ _ (omega (arith, length-append text rest)) in
    rw (long, take_at text rest n len, drop_at text rest n len, len) refl

-- where some of them aren't there
pub bytes_cut : {n : ℕ} (text : List ℕ) (at k : ℕ) → length text ≡ n → k < n
    → IsCut Short at k (next_bytes n (record { at = at; rest = take k text }))
unfolding next_bytes
bytes_cut {n = n} text at k len lt =
    let few : ltb (length (take k text)) n ≡ true = lt-ltb _ _ (omega (arith, length-take k text)) in
    record { inside = 0; within = omega arith; is = rw few (ap (λ m. Err (Short m)) (omega arith)) }

-- ---- a byte

one_byte : (text : List ℕ) → length text ≡ 1 → text ≡ get_or text 0 0 ∷ []
one_byte [] e = absurd (omega arith)
one_byte (b ∷ []) e = refl
one_byte (b ∷ c ∷ text) e = absurd (omega arith)

pub byte_reads : Reads Short All (λ n. n < 256) (λ n. n ∷ []) next_byte
unfolding next_byte
byte_reads = record {
  takes = λ i n j bytes e.
      let x = goes_on_ok (next_bytes 1 i) (λ text. done (get_or text 0 0)) (n, j) e in
      let t = bytes_take 1 i x.0.0 x.0.1 bytes x.1 in
      let v = ok_value (get_or x.0.0 0 0) n x.0.1 j x.2 in
      let is : x.0.0 ≡ n ∷ [] = one_byte x.0.0 t.0 ∙ ap (λ b. b ∷ []) v.0 in (
        tt,
        subst (λ b. b < 256) v.0 (t.1 0),
        subst (λ text. Took i text j) is
            (subst (λ k. Took i x.0.0 k) v.1 t.2),
      );
  again = λ n at rest known fits. ap (λ r. goes_on r (λ text. done (get_or text 0 0)))
      (bytes_again 1 (n ∷ []) at rest refl);
  cut = λ n at k known fits lt. cut_goes_on (λ text. done (get_or text 0 0))
      (bytes_cut (n ∷ []) at k refl lt);
}

-- ---- numbers

pub number_reads : (len : ℕ) → Reads Short All (λ n. n < 256 ^ len) (number_bytes len) (next_number len)
unfolding next_number number_bytes
number_reads len = record {
  takes = λ i n j bytes e.
      let x = goes_on_ok (next_bytes len i) (λ text. done (little_number len text)) (n, j) e in
      let t = bytes_take len i x.0.0 x.0.1 bytes x.1 in
      let v = ok_value (little_number len x.0.0) n x.0.1 j x.2 in
      let is : x.0.0 ≡ little_bytes len n = sym (spelled_again len x.0.0 t.0 t.1)
      ∙ ap (little_bytes len) v.0 in
      let low : little_number len x.0.0 < 256 ^ len = little_from-lt 0 len x.0.0 t.1 in (
        tt,
        subst (λ b. b < 256 ^ len) v.0 low,
        subst (λ text. Took i text j) is
            (subst (λ k. Took i x.0.0 k) v.1 t.2),
      );
  again = λ n at rest known fits.
      ap (λ r. goes_on r (λ text. done (little_number len text)))
      (bytes_again len (little_bytes len n) at rest (length-bytes_low_first 0 len n))
      ∙ ap (λ m. Ok (m, after at (little_bytes len n) rest)) (read_again len n fits);
  cut = λ n at k known fits lt.
      let is : length (little_bytes len n) ≡ len = length-bytes_low_first 0 len n in
      cut_goes_on (λ text. done (little_number len text))
      (bytes_cut (little_bytes len n) at k is (omega (arith, is)));
}

pub signed_reads : Reads Short All (FitsSigned w64) signed_bytes next_signed
unfolding next_signed signed_bytes
signed_reads = record {
  takes = λ i z j bytes e.
      let number = number_reads 8 in
      let x = goes_on_ok (next_number 8 i) (λ n. done (cast_signed w64 n)) (z, j) e in
      let t = number.takes i x.0.0 x.0.1 bytes x.1 in
      let v = ok_value (cast_signed w64 x.0.0) z x.0.1 j x.2 in
      let is : x.0.0 ≡ cast_unsigned w64 z = sym (of_z-to_z w64 x.0.0 t.1) ∙ ap (cast_unsigned w64) v.0 in (
        tt,
        subst (FitsSigned w64) v.0 (sfits_to_z (record { fits = t.1 })),
        subst (λ n. Took i (number_bytes 8 n) j) is (subst (λ k. Took i (number_bytes 8 x.0.0) k) v.1 t.2),
      );
  again = λ z at rest known fits.
      let number = number_reads 8 in
      let below : cast_unsigned w64 z < 2 ^ 64 = (Fits-of_z fits).fits in
      ap (λ r. goes_on r (λ n. done (cast_signed w64 n)))
      (number.again (cast_unsigned w64 z) at rest tt below)
      ∙ ap (λ m. Ok (m, after at (number_bytes 8 (cast_unsigned w64 z)) rest)) (to_z-of_z w64 z fits);
  cut = λ z at k known fits lt. cut_goes_on (λ n. done (cast_signed w64 n))
      ((number_reads 8).cut (cast_unsigned w64 z) at k tt (Fits-of_z fits).fits lt);
}

-- ---- what a field means

-- of the values with P those mean something that stand for one with Q
pub meant_reads : {A B : Type 0} {P : A → Type 0} {Q : B → Type 0} {text : A → List ℕ}
    (meaning : A → Option B) (stands : B → A) (r : Reader Input FieldFault A)
    → Reads Short All P text r
    → ((a : A) (b : B) → P a → meaning a ≡ Some b → Q b × (stands b ≡ a))
    → ((b : B) → Q b → P (stands b) × (meaning (stands b) ≡ Some b))
    → Reads Short All Q (λ b. text (stands b)) (meant meaning r)
unfolding meant
meant_reads {Q = Q} {text = text} meaning stands r h there back =
    reads_placed (λ at. r >>= λ x. unless_none (BadField at) (meaning x)) (λ at. record {
      takes = λ i b j bytes e.
          let x = goes_on_ok (r i) (λ a. unless_none (BadField at) (meaning a)) (b, j) e in
          let t = h.takes i x.0.0 x.0.1 bytes x.1 in
          let v = some_ok (BadField at) (meaning x.0.0) x.0.1 b j x.2 in
          let q = there x.0.0 b t.1 v.0 in
          (tt, q.0, subst (λ a. Took i (text a) j) (sym q.1) (subst (λ k. Took i (text x.0.0) k) v.1 t.2));
      again = λ b start rest known fits.
          let g = back b fits in
          ap (λ q. goes_on q (λ a. unless_none (BadField at) (meaning a)))
          (h.again (stands b) start rest tt g.0)
          ∙ ap (λ o. unless_none (BadField at) o (after start (text (stands b)) rest)) g.1;
      cut = λ b start n known fits lt. cut_goes_on (λ a. unless_none (BadField at) (meaning a))
          (h.cut (stands b) start n tt (back b fits).0 lt);
    })

within_is : (low high n m : ℕ) → within low high n ≡ Some m → (low ≤ m) × (m ≤ high) × (m ≡ n)
within_is low high n m e = go (leb low n) (leb n high) refl refl e
  where
    go : (a b : Bool) → leb low n ≡ a → leb n high ≡ b → cond (a && b) (Some n) None ≡ Some m
        → (low ≤ m) × (m ≤ high) × (m ≡ n)
    go true true p q e = let is : n ≡ m = cc in (grind (arith, p, is), grind (arith, q, is), sym is)
    go true false p q e = absurd cc
    go false b p q e = absurd cc

is_within : (low high n : ℕ) → low ≤ n → n ≤ high → within low high n ≡ Some n
is_within low high n l h = grind arith

pub within_reads : (len low high : ℕ) → high < 256 ^ len → Reads Short All (λ n. (low ≤ n) × (n ≤ high))
    (number_bytes len) (meant (within low high) (next_number len))
within_reads len low high fits = meant_reads (within low high) (λ n. n) (next_number len) (number_reads len)
    (λ a b p e. let g = within_is low high a b e in ((g.0, g.1), g.2))
    (λ b q. (omega (arith, q.1), is_within low high b q.0 q.1))
