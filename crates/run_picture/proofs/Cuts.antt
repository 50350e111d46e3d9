-- An address put among cuts.
use Rattle.std.proofs.Common.{◌≡◌, ℕ, suc, ◌+◌, ◌<◌, Bool, true, false, List, [], ◌∷◌, length, get_or}
use Rattle.std.proofs.Common.{refl, sym, ap, ◌∙◌, subst, arith, eq-eqb, eqb-true}
use Rattle.std.specs.Prelude.{nat_le, nat_eq}
use Rattle.std.specs.List.{insert, position_or_len}
use Rattle.run_picture.specs.Heights.{reaches, with_cut}

-- where it is one of them
found : (a d : ℕ) (cs : List ℕ) → position_or_len (reaches a) cs < length cs
    → get_or cs (position_or_len (reaches a) cs) d ≡ a → cs ≡ with_cut a cs
found a d [] h e = absurd (omega arith)
found a d (c ∷ cs) h e = by (found a d cs) (nat_le c a) refl
  where
    by : (position_or_len (reaches a) cs < length cs → get_or cs (position_or_len (reaches a) cs) d ≡ a
        → cs ≡ with_cut a cs)
        → (b : Bool) → nat_le c a ≡ b → c ∷ cs ≡ with_cut a (c ∷ cs)
    by rec true t =
        let e2 : c ≡ a = rw t at e in
        let q = eq-eqb c a e2 in
        rw (t, q) refl
    by rec false t =
        let n = position_or_len (reaches a) cs in
        let h2 : 1 + n < length (c ∷ cs) = rw t at h in
        let e2 : get_or (c ∷ cs) (1 + n) d ≡ a = rw t at e in
        let s : 1 + n ≡ suc n = omega arith in
        let e3 : get_or cs n d ≡ a = subst (λ m. get_or (c ∷ cs) m d ≡ a) s e2 in
        rw t (ap (λ xs. c ∷ xs) (rec (omega arith) e3))

-- another cut stands at a place
abbrev HasOther : ℕ → List ℕ → ℕ → Type 0
HasOther a cs k = (d : ℕ) × (get_or cs k d ≡ a → ⊥)

-- where it isn't
put : (a : ℕ) (cs : List ℕ)
    → (position_or_len (reaches a) cs < length cs → HasOther a cs (position_or_len (reaches a) cs))
    → insert cs (position_or_len (reaches a) cs) a ≡ with_cut a cs
put a [] h = refl
put a (c ∷ cs) h = by (put a cs) (nat_le c a) refl
  where
    not_eq : (nat_le c a ≡ true) → (b : Bool) → nat_eq c a ≡ b → nat_eq c a ≡ false
    not_eq t false q = q
    not_eq t true q = absurd (((rw t at h) (omega arith)).1 (eqb-true c a q))

    by : ((position_or_len (reaches a) cs < length cs → HasOther a cs (position_or_len (reaches a) cs))
        → insert cs (position_or_len (reaches a) cs) a ≡ with_cut a cs) → (b : Bool) → nat_le c a ≡ b
        → insert (c ∷ cs) (position_or_len (reaches a) (c ∷ cs)) a ≡ with_cut a (c ∷ cs)
    by rec true t = let q = not_eq t (nat_eq c a) refl in rw (t, q) refl
    by rec false t =
        let n = position_or_len (reaches a) cs in
        let s : 1 + n ≡ suc n = omega arith in
        let rest : insert cs n a ≡ with_cut a cs = rec (λ lt.
        let p : HasOther a (c ∷ cs) (1 + n) = (rw t at h) (omega arith) in
        (p.0, λ e. p.1 (subst (λ m. get_or (c ∷ cs) m p.0 ≡ a) (sym s) e))) in
        rw (t, s) (ap (λ xs. c ∷ xs) rest)

module _ (a k : ℕ) (cs : List ℕ) (is : k ≡ position_or_len (reaches a) cs) where
  pub found_at : (d : ℕ) → k < length cs → d ≡ a → d ≡ get_or cs k d → cs ≡ with_cut a cs
  found_at d lt e at =
      found a d cs (subst (λ m. m < length cs) is lt) (subst (λ m. get_or cs m d ≡ a) is (sym at ∙ e))

  pub put_at : (k < length cs → (d : ℕ) × (d ≡ get_or cs k d) × (d ≡ a → ⊥)) → insert cs k a ≡ with_cut a cs
  put_at h = subst (λ m. insert cs m a ≡ with_cut a cs) (sym is)
      (put a cs (subst (λ m. m < length cs → HasOther a cs m) is
      (λ lt. let p = h lt in (p.0, λ e. p.2 (p.1 ∙ e)))))
