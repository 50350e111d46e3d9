-- Texts that are read whole.
use Rattle.std.proofs.Common.{◌≡◌, ℕ, ◌+◌, ◌<◌, ◌≤◌, Bool, true, false, cond, eqb, List, [], ◌∷◌, ◌++◌}
use Rattle.std.proofs.Common.{length, take, Result, Ok, Err, refl, sym, ap, ◌∙◌, append-nil, arith}
use Rattle.std.proofs.lemmas.Bool.{eqb-true, ne_eqb}
use Rattle.std.proofs.lemmas.List.{nil_from_length}
use Rattle.readers.specs.Readers.{Reader}
use Rattle.readers.specs.Answers.{Fails}
use Rattle.readers.specs.Places.{Ahead, finished, read_whole}
use Rattle.readers.proofs.Faults.{only_refusal}
use Rattle.readers.proofs.Grammar.{Reads, All}

ended_ok : {F A : Type 0} (b : Bool) (x y : A) (fault : F) → cond b (Ok x) (Err fault) ≡ Ok y
    → (b ≡ true) × (x ≡ y)
ended_ok true x y fault e = (refl, cc)
ended_ok false x y fault e = absurd cc

-- what was read with nothing after it
finished_ok : {S F A : Type 0} (trailing : ℕ → F) (r : Result (A × Ahead S) F) (x : A)
    → finished trailing r ≡ Ok x
    → (j : Ahead S) × (r ≡ Ok (x, j)) × (length j.rest ≡ 0)
finished_ok trailing (Err e) x h = absurd cc
finished_ok trailing (Ok y) x h =
    let g = ended_ok (eqb (length y.1.rest) 0) y.0 x (trailing y.1.at) h in
    (y.1, ap (λ z. Ok (z, y.1)) g.1, eqb-true _ _ g.0)

module _ {S F A : Type 0} {Good : List S → Type 0} {short : ℕ → F} {P : A → Type 0} {t : A → List S}
    {r : Reader (Ahead S) F A} (h : Reads Good short All P t r) (trailing : ℕ → F) where
  -- what is read is spelled so
  pub found_whole : (text : List S) (x : A) → Good text → read_whole trailing r text ≡ Ok x
      → P x × (text ≡ t x)
  found_whole text x good e =
      let f = finished_ok trailing (r (record { at = 0; rest = text })) x e in
      let g = h.takes (record { at = 0; rest = text }) x f.0 good f.1 in
      let nothing : f.0.rest ≡ [] = nil_from_length f.0.rest f.2 in
      (g.1, g.2.parts ∙ ap (λ l. t x ++ l) nothing ∙ append-nil (t x))

  -- what is spelled so is read
  pub again_whole : (x : A) → P x → read_whole trailing r (t x) ≡ Ok x
  again_whole x fits =
      ap (λ l. finished trailing (r (record { at = 0; rest = l }))) (sym (append-nil (t x)))
      ∙ ap (finished trailing) (h.again x 0 [] tt fits)

  -- what was cut is short somewhere
  pub cut_whole : (x : A) (n : ℕ) → P x → n < length (t x)
      → (at : ℕ) × (at ≤ n) × (read_whole trailing r (take n (t x)) ≡ Err (short at))
  cut_whole x n fits lt =
      let g = h.cut x 0 n tt fits lt in
      (0 + g.inside, omega (arith, g.within), ap (finished trailing) g.is)

  -- what stands after it is too much
  pub past_whole : (x : A) (s : S) (more : List S) → P x
      → read_whole trailing r (t x ++ s ∷ more) ≡ Err (trailing (length (t x)))
  past_whole x s more fits =
      let some : eqb (length (s ∷ more)) 0 ≡ false = ne_eqb _ _ (λ e. omega (arith, e)) in
      let same : 0 + length (t x) ≡ length (t x) = omega arith in
      ap (finished trailing) (h.again x 0 (s ∷ more) tt fits) ∙ rw some (ap (λ n. Err (trailing n)) same)

  -- only memory keeps what is spelled so from being read
  pub refused_whole : (is_refusal : F → Bool) (text : List S) (e : F) (x : A)
      → Fails is_refusal e (read_whole trailing r text) → P x × (text ≡ t x) → is_refusal e ≡ true
  refused_whole is_refusal text e x failed s =
      only_refusal is_refusal e x (read_whole trailing r text) failed
      (ap (read_whole trailing r) s.1 ∙ again_whole x s.0)

  pub one_whole : (text : List S) (x y : A) → read_whole trailing r text ≡ Ok x → P y × (text ≡ t y) → x ≡ y
  one_whole text x y read s = ok_is x y (sym read ∙ ap (read_whole trailing r) s.1 ∙ again_whole y s.0)
    where
      ok_is : (x y : A) → (let a : Result A F = Ok x in a) ≡ Ok y → x ≡ y
      ok_is x y e = cc
