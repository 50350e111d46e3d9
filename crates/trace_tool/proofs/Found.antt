-- The part whose code a capability runs, found by halving.
use Rattle.std.proofs.Common.{◌≡◌, ℕ, suc, ◌<◌, Bool, true, false, List, [], ◌∷◌, length, get_or, Option}
use Rattle.std.proofs.Common.{Some, None, refl, sym, ap, ◌∙◌, arith}
use Rattle.std.specs.Prelude.{find, ◌&&◌, IsTrue, if◌then◌else◌}
use Rattle.std.specs.List.{AllPairs, HoldsAt}
use Rattle.std.specs.List.Sorted.{IsNonDecreasingBy, IsPartitionPoint}
use Rattle.std.specs.Ordering.{nat_cmp, ordering_index, is_eq, is_lt}
use Rattle.std.specs.declared.cmp.Ordering.{Ordering}
use Rattle.std.specs.declared.cmp.Ordering.TheVariants.{Less, Equal, Greater}
use Rattle.std.proofs.lemmas.Bool.{ne_eqb}
use Rattle.std.proofs.lemmas.Cmp.{nat_cmp_total}
use Rattle.lcm_machine.proofs.Offers.{tied_same}
use Rattle.cap_words.specs.declared.CapFields.{CapFields}
use Rattle.linked_starts.specs.declared.owners.Owner.{Owner}
use Rattle.linked_starts.proofs.Offers as halved
use Rattle.linked_starts.proofs.Offers.{less_is, greater_is}
use Rattle.trusted_border.specs.Layout.{runs_part}

abbrev Rise : List Owner → Type 0
Rise os = AllPairs (λ (o q : Owner). o.code.base < q.code.base) os

abbrev if_runs : CapFields → Option Owner → Option Owner
if_runs c None = None
if_runs c (Some o) = if runs_part c o then Some o else None

four : (a b d e : Bool) → (a && b && d && false && e) ≡ false
four true true true e = refl
four true true false e = refl
four true false d e = refl
four false b d e = refl

other_base : (c : CapFields) (o : Owner) → (c.base ≡ o.code.base → ⊥) → runs_part c o ≡ false
other_base c o ne = rw (ne_eqb c.base o.code.base ne) (four o.trusted _ _ _)

none_runs : (c : CapFields) (os : List Owner)
    → ((i : ℕ) (d : Owner) → i < length os → c.base ≡ (get_or os i d).code.base → ⊥)
    → find (runs_part c) os ≡ None
none_runs c [] h = refl
none_runs c (x ∷ xs) h =
    rw (other_base c x (h 0 x (omega arith))) (none_runs c xs (λ i d lt e. h (suc i) d (omega (arith, lt)) e))

eq_base : (c : CapFields) (o : Owner) → nat_cmp o.code.base c.base ≡ Equal → c.base ≡ o.code.base
eq_base c o e = sym (tied_same o.code.base c.base e)

tail_rises : (x : Owner) (xs : List Owner) → Rise (x ∷ xs) → Rise xs
tail_rises x xs h = λ i j d lt le. h (suc i) (suc j) d (omega (arith, lt)) (omega (arith, le))

-- of parts whose codes ascend, the one with this base is the only one that can be meant
pub runs_by_base : (c : CapFields) (os : List Owner) → Rise os
    → find (runs_part c) os ≡ if_runs c (find (λ o. is_eq (nat_cmp o.code.base c.base)) os)
runs_by_base c [] h = refl
runs_by_base c (x ∷ xs) h = by_cmp (nat_cmp x.code.base c.base) refl (runs_by_base c xs (tail_rises x xs h))
  where
    others : c.base ≡ x.code.base → find (runs_part c) xs ≡ None
    others e =
        none_runs c xs (λ i d lt f. let up : x.code.base < (get_or xs i d).code.base =
        h 0 (suc i) d (omega arith) (omega (arith, lt)) in omega (arith, e, f, up))

    by_runs : (b : Bool) → c.base ≡ x.code.base
        → (if b then Some x else find (runs_part c) xs) ≡ (if b then Some x else None)
    by_runs true e = refl
    by_runs false e = others e

    by_cmp : (r : Ordering) → nat_cmp x.code.base c.base ≡ r
        → find (runs_part c) xs ≡ if_runs c (find (λ o. is_eq (nat_cmp o.code.base c.base)) xs)
        → (if runs_part c x then Some x else find (runs_part c) xs)
        ≡ if_runs c
        (if is_eq (nat_cmp x.code.base c.base)
        then Some x else find (λ o. is_eq (nat_cmp o.code.base c.base)) xs)
    by_cmp Equal e rest = rw e (by_runs (runs_part c x) (eq_base c x e))
    by_cmp Less e rest =
        rw (
          e,
          other_base c x
              (λ f. let l : x.code.base < c.base = less_is x.code.base c.base e in omega (arith, f, l)),
        ) rest
    by_cmp Greater e rest =
        rw (
          e,
          other_base c x
              (λ f. let l : c.base < x.code.base = greater_is x.code.base c.base e in omega (arith, f, l)),
        ) rest

less_cmp : (a b : ℕ) → a < b → nat_cmp a b ≡ Less
less_cmp a b lt = by_cmp (nat_cmp a b) refl
  where
    by_cmp : (r : Ordering) → nat_cmp a b ≡ r → r ≡ Less
    by_cmp Less e = refl
    by_cmp Equal e = absurd (let q : a ≡ b = tied_same a b e in omega (arith, lt, q))
    by_cmp Greater e = absurd (let l : b < a = greater_is a b e in omega (arith, lt, l))

rise_cmp : (os : List Owner) → Rise os
    → AllPairs (λ (o q : Owner). IsTrue (is_lt (nat_cmp o.code.base q.code.base))) os
rise_cmp os h = λ i j d lt le. rw (less_cmp _ _ (h i j d lt le)) refl

owner_found : (c : CapFields) (os : List Owner) (i : ℕ) (d : Owner) → Rise os → i < length os
    → HoldsAt (λ (o : Owner). nat_cmp o.code.base c.base ≡ Equal) os i
    → find (runs_part c) os ≡ (if runs_part c (get_or os i d) then Some (get_or os i d) else None)
owner_found c os i d h lt at =
    runs_by_base c os h ∙ ap (if_runs c)
    (halved.halved_found (λ (o : Owner). o.code.base) nat_cmp nat_cmp_total c.base os i d
    (rise_cmp os h) lt at)

pub owner_runs : (c : CapFields) (os : List Owner) (i : ℕ) (x : Owner) → Rise os → i < length os
    → HoldsAt (λ (o : Owner). nat_cmp o.code.base c.base ≡ Equal) os i → x ≡ get_or os i x
    → runs_part c x ≡ true → find (runs_part c) os ≡ Some x
owner_runs c os i x h lt at e r =
    owner_found c os i x h lt at ∙ ap (λ y. if runs_part c y then Some y else None) (sym e)
    ∙ ap (λ b. if b then Some x else None) r

pub owner_elsewhere : (c : CapFields) (os : List Owner) (i : ℕ) (x : Owner) → Rise os → i < length os
    → HoldsAt (λ (o : Owner). nat_cmp o.code.base c.base ≡ Equal) os i → x ≡ get_or os i x
    → runs_part c x ≡ false → find (runs_part c) os ≡ None
owner_elsewhere c os i x h lt at e r =
    owner_found c os i x h lt at ∙ ap (λ y. if runs_part c y then Some y else None) (sym e)
    ∙ ap (λ b. if b then Some x else None) r

pub owner_missing : (c : CapFields) (os : List Owner) (i : ℕ) → Rise os
    → (IsNonDecreasingBy (λ (o : Owner). ordering_index (nat_cmp o.code.base c.base)) os
    → IsPartitionPoint (λ (o : Owner). nat_cmp o.code.base c.base ≡ Less)
    (λ (o : Owner). nat_cmp o.code.base c.base ≡ Greater) os i)
    → find (runs_part c) os ≡ None
owner_missing c os i h split =
    runs_by_base c os h ∙ ap (if_runs c)
    (halved.missing (λ (o : Owner). o.code.base) nat_cmp nat_cmp_total c.base os i (rise_cmp os h) split)
