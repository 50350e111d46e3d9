-- How the values of a procedure's variables stand in the slots of its frame.
use Rattle.std.proofs.Common.{Option, None, ◌≡◌, ◌≢◌, inl, inr, ℕ, zero, suc, ◌+◌, ◌<◌, ◌≤◌, ℤ, List, [], ◌∷◌}
use Rattle.std.proofs.Common.{length, Some, true, refl, sym, ap, ◌∙◌, subst, arith}
use Rattle.std.specs.Prelude.{slice_get, slice_set, slice_index_or}
use Rattle.std.proofs.lemmas.Bool.{cases_eq}
use Rattle.std.proofs.lemmas.Option.{slice_get_within}
use Rattle.cap_words.specs.declared.Word.TheVariants.{Int}
use Rattle.lcm_machine.specs.Table.{fits_64}
use Rattle.overlay_machine.specs.declared.words.OWord.{OWord}
use Rattle.overlay_machine.specs.declared.words.OWord.TheVariants.{Plain}
use Rattle.proc_semantics.specs.declared.value.Pair.{Pair}
use Rattle.proc_semantics.specs.declared.value.Value.{Value}
use Rattle.proc_semantics.specs.declared.value.Value.TheVariants.{Num, Closure}
use Rattle.source_laws.specs.Fits.{Kind, AsNumber, AsPair, AsRest}
use Rattle.template_runs.proofs.Offers.{with_at, SameBelow, get_with}

pub get-set_same : (env : List Value) (i : ℕ) (v u : Value) → slice_get env i ≡ Some u
    → slice_get (slice_set env i v) i ≡ Some v
get-set_same [] i v u e = cc
get-set_same (x ∷ env) zero v u e = refl
get-set_same (x ∷ env) (suc i) v u e = get-set_same env i v u e

pub get-set_other : (env : List Value) (i j : ℕ) (v : Value) → j ≢ i
    → slice_get (slice_set env i v) j ≡ slice_get env j
get-set_other [] i j v ne = refl
get-set_other (x ∷ env) zero zero v ne = absurd (ne refl)
get-set_other (x ∷ env) zero (suc j) v ne = refl
get-set_other (x ∷ env) (suc i) zero v ne = refl
get-set_other (x ∷ env) (suc i) (suc j) v ne = get-set_other env i j v (λ e. ne (ap suc e))

pub index_is : (env : List Value) (i : ℕ) (v d : Value) → slice_get env i ≡ Some v
    → slice_index_or env i d ≡ v
index_is [] i v d e = cc
index_is (x ∷ env) zero v d e = let s : x ≡ v = cc in s
index_is (x ∷ env) (suc i) v d e = index_is env i v d e

pub get-with_other : (ws : List OWord) (i j : ℕ) (x : OWord) → j ≢ i
    → slice_get (with_at ws i x) j ≡ slice_get ws j
get-with_other [] i j x ne = refl
get-with_other (w ∷ ws) zero zero x ne = absurd (ne refl)
get-with_other (w ∷ ws) zero (suc j) x ne = refl
get-with_other (w ∷ ws) (suc i) zero x ne = refl
get-with_other (w ∷ ws) (suc i) (suc j) x ne = get-with_other ws i j x (λ e. ne (ap suc e))

-- two words that stand in a place, and are those that its marks say
abbrev pub AtPlace : List (Option OWord) → (Pair → OWord → OWord → Type 0) → ℕ → Pair → OWord → OWord → Type 0
AtPlace ms R i r x y = R r x y × (slice_index_or ms i None ≡ Some x)
    × (slice_index_or ms (i + 1) None ≡ Some y)

-- the kinds of a procedure's places; after a pair's comes its rest's
module _ (kinds : List Kind) (IsPair : ℕ → Pair → OWord → OWord → Type 0) where
  pub record NumberAt (env : List Value) (words : List OWord) (i : ℕ) : Type 0 where
    pub number : ℤ
    pub meant : slice_get env i ≡ Some (Num number)
    pub stands : slice_get words (i + 2) ≡ Some (Plain (Int number))
    pub fits : fits_64 number ≡ true

  pub record PairAt (env : List Value) (words : List OWord) (i : ℕ) : Type 0 where
    pub pair : Pair
    pub first : OWord
    pub second : OWord
    pub meant : slice_get env i ≡ Some (Closure pair)
    pub stands : slice_get words (i + 2) ≡ Some first
    pub stands_too : slice_get words (i + 2 + 1) ≡ Some second
    pub is : IsPair i pair first second

  -- the values of a procedure's places stand in the slots from the second on
  pub record EnvIn (env : List Value) (words : List OWord) : Type 0 where
    pub numbers : (i : ℕ) → slice_get kinds i ≡ Some AsNumber → NumberAt env words i
    pub pairs : (i : ℕ) → slice_get kinds i ≡ Some AsPair → PairAt env words i

  module _ (rests : (i : ℕ) → slice_get kinds i ≡ Some AsPair → slice_get kinds (i + 1) ≡ Some AsRest) where
    pub env_same : (env : List Value) (words words' : List OWord) (t : ℕ) → 2 + length kinds ≤ t
        → SameBelow t words words' → EnvIn env words → EnvIn env words'
    env_same env words words' t le same e = record {
      numbers = λ i k. number i k (e.numbers i k);
      pairs = λ i k. pair i k (e.pairs i k);
    }
      where
        number : (i : ℕ) → slice_get kinds i ≡ Some AsNumber → NumberAt env words i → NumberAt env words' i
        number i k x = let lt = slice_get_within kinds i AsNumber k in
            record {
              number = x.number;
              meant = x.meant;
              stands = same.each (i + 2) (omega (arith, lt, le))
                  ∙ x.stands;
              fits = x.fits;
            }

        pair : (i : ℕ) → slice_get kinds i ≡ Some AsPair → PairAt env words i → PairAt env words' i
        pair i k x =
            let lt = slice_get_within kinds i AsPair k in
            let lt1 = slice_get_within kinds (i + 1) AsRest (rests i k) in
            record {
              pair = x.pair;
              first = x.first;
              second = x.second;
              meant = x.meant;
              stands = same.each (i + 2) (omega (arith, lt, le)) ∙ x.stands;
              stands_too = same.each (i + 2 + 1) (omega (arith, lt1, le)) ∙ x.stands_too;
              is = x.is;
            }

    kinds_differ : (i : ℕ) (a b : Kind) → slice_get kinds i ≡ Some a → slice_get kinds i ≡ Some b → a ≡ b
    kinds_differ i a b e f = let s : Some a ≡ Some b = sym e ∙ f in cc

    -- a number is set
    pub env_set : (env : List Value) (words : List OWord) (i : ℕ) (v : ℤ) → slice_get kinds i ≡ Some AsNumber
        → i + 2 < length words → fits_64 v ≡ true → EnvIn env words
        → EnvIn (slice_set env i (Num v)) (with_at words (i + 2) (Plain (Int v)))
    env_set env words i v ki lt fit e = record {
      numbers = λ j kj. elim (cases_eq j i) as (λ _. NumberAt (slice_set env i (Num v))
          (with_at words (i + 2) (Plain (Int v))) j) [
            | inl same ↦ subst (NumberAt (slice_set env i (Num v)) (with_at words (i + 2) (Plain (Int v))))
                (sym same)
                (record {
                  number = v;
                  meant = get-set_same env i (Num v) (Num (e.numbers i ki).number) (e.numbers i ki).meant;
                  stands = get_with words (i + 2) (Plain (Int v)) lt;
                  fits = fit;
                })
            | inr ne ↦ number j ne (e.numbers j kj)
          ];
      pairs = λ j kj. pair j kj (e.pairs j kj);
    }
      where
        number : (j : ℕ) → j ≢ i → NumberAt env words j
            → NumberAt (slice_set env i (Num v)) (with_at words (i + 2) (Plain (Int v))) j
        number j ne x =
            let ne2 : j + 2 ≢ i + 2 = omega (arith, ne) in
            record {
              number = x.number;
              meant = get-set_other env i j (Num v) ne ∙ x.meant;
              stands = get-with_other words (i + 2) (j + 2) (Plain (Int v)) ne2 ∙ x.stands;
              fits = x.fits;
            }

        pair : (j : ℕ) → slice_get kinds j ≡ Some AsPair → PairAt env words j
            → PairAt (slice_set env i (Num v)) (with_at words (i + 2) (Plain (Int v))) j
        pair j kj x =
            let ne : j ≢ i = λ q. no_pair (subst (λ y. slice_get kinds y ≡ Some AsPair) q kj) in
            let ne1 : j + 1 ≢ i =
            λ q. no_rest (subst (λ y. slice_get kinds y ≡ Some AsRest) q (rests j kj)) in
            let ne2 : j + 2 ≢ i + 2 = omega (arith, ne) in
            let ne3 : j + 2 + 1 ≢ i + 2 = omega (arith, ne1) in
            record {
              pair = x.pair;
              first = x.first;
              second = x.second;
              meant = get-set_other env i j (Num v) ne ∙ x.meant;
              stands = get-with_other words (i + 2) (j + 2) (Plain (Int v)) ne2 ∙ x.stands;
              stands_too = get-with_other words (i + 2) (j + 2 + 1) (Plain (Int v)) ne3 ∙ x.stands_too;
              is = x.is;
            }
          where
            no_pair : slice_get kinds i ≡ Some AsPair → ⊥
            no_pair h = let s : AsPair ≡ AsNumber = kinds_differ i AsPair AsNumber h ki in cc

            no_rest : slice_get kinds i ≡ Some AsRest → ⊥
            no_rest h = let s : AsRest ≡ AsNumber = kinds_differ i AsRest AsNumber h ki in cc
