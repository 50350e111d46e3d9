-- Two rising lists of the same items are one.
use Rattle.std.proofs.Common.{◌≡◌, ℕ, zero, suc, ◌<◌, ◌⊎◌, List, [], ◌∷◌, refl, sym, ap, subst, ◌∙◌, arith}
use Rattle.std.proofs.Common.{inl, inr}
use Rattle.std.specs.List.{AllPairs, Contains}

module _ {A : Type 0} (key : A → ℕ) where
  abbrev pub Rises : List A → Type 0
  Rises = AllPairs (λ s t. key s < key t)

  cons_cases : (t s : A) (ts : List A) → Contains (t ∷ ts) s → (t ≡ s) ⊎ Contains ts s
  cons_cases t s ts (zero, l, e) = inl e
  cons_cases t s ts (suc k, l, e) = inr (k, omega (arith, l), e)

  cons_later : (t s : A) (ts : List A) → Contains ts s → Contains (t ∷ ts) s
  cons_later t s ts (k, l, e) = (suc k, omega (arith, l), e)

  above : (t s : A) (ts : List A) → Rises (t ∷ ts) → Contains ts s → key t < key s
  above t s ts r (k, l, e) = subst (λ (u : A). key t < key u) e
      (r 0 (suc k) s (omega arith) (omega (arith, l)))

  tail_rises : (t : A) (ts : List A) → Rises (t ∷ ts) → Rises ts
  tail_rises t ts r = λ i j d lt in'. r (suc i) (suc j) d (omega (arith, lt)) (omega (arith, in'))

  heads : (s t : A) (ss ts : List A) → Rises (s ∷ ss) → Rises (t ∷ ts) → (t ≡ s) ⊎ Contains ts s → (s ≡ t)
      ⊎ Contains ss t → s ≡ t
  heads s t ss ts r q (inl e) h = sym e
  heads s t ss ts r q (inr c) (inl e) = e
  heads s t ss ts r q (inr c) (inr d) = absurd (let a = above t s ts q c in let b = above s t ss r d in
      omega (arith, a, b))

  rest : (x y : A) (xs ys : List A) → x ≡ y → Rises (x ∷ xs)
      → ((z : A) → Contains (x ∷ xs) z → Contains (y ∷ ys) z) → (z : A) → Contains xs z → Contains ys z
  rest x y xs ys e r f z c = elim (cons_cases y z ys (f z (cons_later x z xs c))) as (λ _. Contains ys z) [
    | inl h ↦ absurd (let a = above x z xs r c in let b = ap key (e ∙ h) in omega (arith, a, b))
    | inr h ↦ h
  ]

  pub one_rising : (ss ts : List A) → Rises ss → Rises ts → ((s : A) → Contains ss s → Contains ts s)
      → ((s : A) → Contains ts s → Contains ss s) → ss ≡ ts
  one_rising [] [] r q f g = refl
  one_rising [] (t ∷ ts) r q f g = absurd (let c = g t (0, omega arith, refl) in omega (arith, c.1))
  one_rising (s ∷ ss) [] r q f g = absurd (let c = f s (0, omega arith, refl) in omega (arith, c.1))
  one_rising (s ∷ ss) (t ∷ ts) r q f g =
      let e = heads s t ss ts r q (cons_cases t s ts (f s (0, omega arith, refl)))
      (cons_cases s t ss (g t (0, omega arith, refl))) in
      ap (λ u. u ∷ ss) e ∙ ap (λ us. t ∷ us) (one_rising ss ts (tail_rises s ss r) (tail_rises t ts q)
      (rest s t ss ts e r f) (rest t s ts ss (sym e) q g))
