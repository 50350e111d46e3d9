-- Work lists that grow and shrink at their end.
use Rattle.std.proofs.Common.{◌≡◌, ℕ, zero, suc, ◌+◌, ℤ, pos, negsuc, List, [], ◌∷◌, ◌++◌, reverse}
use Rattle.std.proofs.Common.{Option, Some, None, option_map, length, length-append, ◌≤◌, refl, ap, ◌∙◌}
use Rattle.std.proofs.Common.{arith, if◌then◌else◌}
use Rattle.std.proofs.lemmas.List.{reverse-append}
use Rattle.proc_meaning.specs.declared.places.Run.{Run}
use Rattle.proc_meaning.specs.declared.work.Work.{Work}
use Rattle.proc_meaning.specs.declared.work.Now.{Now}
use Rattle.proc_meaning.specs.declared.work.Ahead.{Ahead}
use Rattle.proc_meaning.specs.declared.work.Ahead.TheVariants.{Free, Ticked, Said, Asks, Stop}
use Rattle.proc_semantics.specs.Told.{Comp, ticks}
use Rattle.proc_semantics.specs.Values.{World, Store, is_zero, global_word}
use Rattle.proc_semantics.specs.Meaning.{Then, with_place, with_number}
use Rattle.proc_meaning.specs.Rest.{now_of, rest_now, IsLess}

module _ (world : World) where
  pub pushed : (n : Now) (items new : List Work) (w : Work) (r : Run) (st : Store) → new ≡ items ++ w ∷ []
      → rest_now world n new r st ≡ now_of world n (w ∷ reverse items) r st
  unfolding rest_now
  pushed n items new w r st e = ap (λ l. now_of world n (reverse l) r st) e
      ∙ ap (λ l. now_of world n l r st) (reverse-append items (w ∷ []))

  pub kept : (n : Now) (items : List Work) (r : Run) (st : Store) → rest_now world n items r st
      ≡ now_of world n (reverse items) r st
  unfolding rest_now
  kept n items r st = refl

-- an element's word, where the index is in the array
pub of_element : (world : World) (o : Option ℕ) (k : Then) (home : ℕ) (st : Store)
    → with_place o (λ o. k (global_word st home o) st) ≡ with_number (option_map (global_word st home) o) k st
of_element world None k home st = refl
of_element world (Some o) k home st = refl

pub longer : (items new : List Work) (w : Work) → new ≡ items ++ w ∷ [] → length new ≡ length items + 1
longer items new w e = ap length e ∙ length-append items (w ∷ [])

-- less than so much is less than more
pub less_more : (a : Ahead) (items : List Work) (m n : ℕ) → m ≤ n → IsLess a items m → IsLess a items n
less_more (Free now) items m n le h = omega (arith, le, h)
less_more (Ticked k now) items m n le h = (h.0, omega (arith, le, h.1))
less_more (Said e now) items m n le h = omega (arith, le, h)
less_more Asks items m n le h = omega (arith, le, h)
less_more (Stop e) items m n le h = tt

pub reversed : (items new : List Work) (w : Work) → new ≡ items ++ w ∷ [] → reverse new ≡ w ∷ reverse items
reversed items new w e = ap reverse e ∙ reverse-append items (w ∷ [])

pub zero_if : {A : Type 0} (v : ℤ) (x y : A) → v ≡ pos 0 → (if is_zero v then x else y) ≡ x
zero_if v x y e = rw e

pub other_if : {A : Type 0} (v : ℤ) (x y : A) → (v ≡ pos 0 → ⊥) → (if is_zero v then x else y) ≡ y
other_if (pos zero) x y ne = absurd (ne refl)
other_if (pos (suc n)) x y ne = refl
other_if (negsuc n) x y ne = refl

-- the ticks of a procedure's beginning and end, as the code counts them
pub as_many : (need n : ℕ) (m : Comp) → n ≡ need → ticks (1 + need) m ≡ ticks (n + 1) m
as_many need n m e = let same : 1 + need ≡ n + 1 = omega (arith, e) in ap (λ k. ticks k m) same

pub as_many_as : (need n : ℕ) (m : Comp) → n ≡ need + 1 → ticks (1 + need) m ≡ ticks n m
as_many_as need n m e = let same : 1 + need ≡ n = omega (arith, e) in ap (λ k. ticks k m) same
