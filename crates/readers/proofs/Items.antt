-- Items that are read one after another, and a loop that reads them.
use Rattle.std.proofs.Common.{◌≡◌, ℕ, zero, suc, ◌+◌, ◌-◌, ◌<◌, ◌≤◌, Bool, List, [], ◌∷◌, ◌++◌, length, take}
use Rattle.std.proofs.Common.{Result, Ok, Err, refl, sym, ap, subst, ◌∙◌, append_assoc, append-nil, arith}
use Rattle.std.specs.List.{flat_map}
use Rattle.readers.specs.Readers.{Reader, goes_on, ◌>>=◌, done, items_from}
use Rattle.readers.specs.Answers.{Fails}
use Rattle.readers.specs.Places.{Ahead}
use Rattle.readers.proofs.Faults.{still_fails}
use Rattle.readers.proofs.Grammar.{Took, took_nothing, took_then, after, before, IsCut, cut_goes_on, Reads}
use Rattle.readers.proofs.Grammar.{All, goes_on_ok, ok_value, cut_then, again_then}

-- ---- the law: of items of which each is right after those before it, by P, and of the lists of such, by Q

module _ {S F A B : Type 0} {Good : List S → Type 0} {short : ℕ → F} {P : B → A → Type 0} {t : A → List S}
    (next : B → A → B) (item : B → Reader (Ahead S) F A)
    (each : (b : B) → Reads Good short All (P b) t (item b)) (Q : B → List A → Type 0)
    (empty : (b : B) → Q b []) (more : (b : B) (x : A) (xs : List A) → P b x × Q (next b x) xs → Q b (x ∷ xs))
    (parts : (b : B) (x : A) (xs : List A) → Q b (x ∷ xs) → P b x × Q (next b x) xs) where
  items_take : (n : ℕ) (b : B) (i : Ahead S) (xs : List A) (j : Ahead S) → Good i.rest
      → items_from next item n b i ≡ Ok (xs, j)
      → (length xs ≡ n) × Q b xs × Took Good i (flat_map t xs) j
  unfolding items_from
  items_take zero b i xs j good e =
      let g = ok_value [] xs i j e in
      subst (λ l. (length l ≡ 0) × Q b l × Took Good i (flat_map t l) j) g.0
      (refl, empty b, subst (λ k. Took Good i [] k) g.1 (took_nothing i good))
  items_take (suc n) b i xs j good e =
      let x = goes_on_ok (item b i) (λ a. items_from next item n (next b a) >>= λ o. done (a ∷ o))
      (xs, j) e in
      let y = goes_on_ok (items_from next item n (next b x.0.0) x.0.1) (λ o. done (x.0.0 ∷ o)) (xs, j) x.2 in
      let g = (each b).takes i x.0.0 x.0.1 good x.1 in
      let h = items_take n (next b x.0.0) x.0.1 y.0.0 y.0.1 g.2.good y.1 in
      let v = ok_value (x.0.0 ∷ y.0.0) xs y.0.1 j y.2 in
      let took = took_then i x.0.1 y.0.1 (t x.0.0) (flat_map t y.0.0) g.2 h.2 in
      subst (λ l. (length l ≡ suc n) × Q b l × Took Good i (flat_map t l) j) v.0 (
        ap suc h.0,
        more b x.0.0 y.0.0 (g.1, h.1),
        subst (λ k. Took Good i (t x.0.0 ++ flat_map t y.0.0) k) v.1 took,
      )

  items_again : (n : ℕ) (b : B) (xs : List A) (at : ℕ) (rest : List S) → length xs ≡ n → Q b xs
      → items_from next item n b (before at (flat_map t xs) rest) ≡ Ok (xs, after at (flat_map t xs) rest)
  unfolding items_from
  items_again zero b [] at rest len chain = ap (λ n. Ok ([], record { at = n; rest = rest })) (omega arith)
  items_again zero b (x ∷ xs) at rest len chain = absurd (omega arith)
  items_again (suc n) b [] at rest len chain = absurd (omega arith)
  items_again (suc n) b (x ∷ xs) at rest len chain =
      let two = items_again n (next b x) xs (at + length (t x)) rest (omega (arith, len))
      (parts b x xs chain).1 in
      again_then (item b) (λ a. items_from next item n (next b a) >>= λ o. done (a ∷ o)) x (x ∷ xs) (t x)
      (flat_map t xs) at rest ((each b).again x at (flat_map t xs ++ rest) tt (parts b x xs chain).0)
      (ap (λ q. goes_on q (λ o. done (x ∷ o))) two)

  items_cut : (n : ℕ) (b : B) (xs : List A) (at k : ℕ) → length xs ≡ n → Q b xs
      → k < length (flat_map t xs)
      → IsCut short at k (items_from next item n b (record { at = at; rest = take k (flat_map t xs) }))
  unfolding items_from
  items_cut zero b [] at k len chain lt = absurd (omega arith)
  items_cut zero b (x ∷ xs) at k len chain lt = absurd (omega arith)
  items_cut (suc n) b [] at k len chain lt = absurd (omega arith)
  items_cut (suc n) b (x ∷ xs) at k len chain lt =
      cut_then (item b) (λ a. items_from next item n (next b a) >>= λ o. done (a ∷ o)) x (t x)
      (flat_map t xs) at k
      (λ less. (each b).cut x at k tt (parts b x xs chain).0 less)
      (λ rest. (each b).again x at rest tt (parts b x xs chain).0)
      (λ m less. cut_goes_on (λ o. done (x ∷ o))
      (items_cut n (next b x) xs (at + length (t x)) m (omega (arith, len)) (parts b x xs chain).1 less))
      lt

  pub items_read : (n : ℕ) (b : B)
      → Reads Good short (λ xs. All xs × (length xs ≡ n)) (Q b) (flat_map t)
      (items_from next item n b)
  items_read n b = record {
    takes = λ i xs j good e. let g = items_take n b i xs j good e in ((tt, g.0), g.1, g.2);
    again = λ xs at rest k p. items_again n b xs at rest k.1 p;
    cut = λ xs at k known p lt. items_cut n b xs at k known.1 p lt;
  }

-- ---- a loop

-- what is read after items that were read already
abbrev pub with_front : {I F A : Type 0} → List A → Result (List A × I) F → Result (List A × I) F
with_front front r = goes_on r (λ xs. done (front ++ xs))

regroup : {I F A : Type 0} (front : List A) (x : A) (r : Result (List A × I) F)
    → with_front front (goes_on r (λ xs. done (x ∷ xs))) ≡ with_front (front ++ x ∷ []) r
regroup front x (Ok r) = ap (λ (l : List _). Ok (l, r.1)) (sym (append_assoc front (x ∷ []) r.0))
regroup front x (Err e) = refl

pub begins : {I F A : Type 0} (r : Result (List A × I) F) → with_front [] r ≡ r
begins (Ok r) = refl
begins (Err e) = refl

module _ {I F A B : Type 0} (next : B → A → B) (item : B → Reader I F A) where
  pub read_one : (front : List A) (b : B) (count i : ℕ) (old new : I) (x : A) (total : Result (List A × I) F)
      → i < count → item b old ≡ Ok (x, new) → with_front front (items_from next item (count - i) b old)
      ≡ total
      → with_front (front ++ x ∷ []) (items_from next item (count - (i + 1)) (next b x) new) ≡ total
  unfolding items_from
  read_one front b count i old new x total lt read so_far =
      let k : count - i ≡ suc (count - (i + 1)) = omega arith in
      let others = items_from next item (count - (i + 1)) (next b x) new in
      let one : with_front front (items_from next item (count - i) b old) ≡ with_front
      (front ++ x ∷ []) others =
      rw (k, read) (regroup front x others) in
      sym one ∙ so_far

  -- the fault of an item is that of the list
  pub read_none : (is_refusal : F → Bool) (e : F) (front : List A) (b : B) (count i : ℕ) (old : I)
      (total : Result (List A × I) F) → i < count → Fails is_refusal e (item b old)
      → with_front front (items_from next item (count - i) b old) ≡ total → Fails is_refusal e total
  unfolding items_from
  read_none is_refusal e front b count i old total lt failed so_far =
      let k : count - i ≡ suc (count - (i + 1)) = omega arith in
      still_fails is_refusal e (item b old) total (λ h. sym so_far ∙ (rw (k, h) refl)) failed

  pub read_all : (front : List A) (b : B) (count i : ℕ) (old : I) (total : Result (List A × I) F) → count ≤ i
      → with_front front (items_from next item (count - i) b old) ≡ total → total ≡ Ok (front, old)
  unfolding items_from
  read_all front b count i old total le so_far =
      let k : count - i ≡ 0 = omega arith in
      let one : with_front front (items_from next item (count - i) b old) ≡ Ok (front, old) =
      rw k (ap (λ (l : List A). Ok (l, old)) (append-nil front)) in
      sym so_far ∙ one
