-- What is found first in a list.
use Rattle.std.proofs.Common.{◌≡◌, ◌⊎◌, inl, inr, ℕ, suc, ◌+◌, Bool, true, false, List, [], ◌∷◌, ◌++◌}
use Rattle.std.proofs.Common.{Option, Some, None, refl, sym, ap, ◌∙◌, take, drop}
use Rattle.std.proofs.lemmas.List.{drop_more, take_more}
use Rattle.std.proofs.lemmas.Option.{slice_get_within, get_or_from_slice_get}
use Rattle.std.specs.Prelude.{find, slice_get, option_map, option_and_then}
use Rattle.std.specs.Option.{option_or}
use Rattle.std.proofs.lemmas.List.Folds.{find_at}
use Rattle.std.specs.List.{position_or_len}
use Rattle.lcm_machine.proofs.Offers.{none_after}
use Rattle.component_file.specs.declared.component.Import.{Import}
use Rattle.component_file.specs.declared.component.Export.{Export}
use Rattle.linked_starts.specs.Parts.{PartSeen}
use Rattle.linked_starts.specs.Start.{first_given, Exported, export_that, part_named, imported, main_of}
use Rattle.linked_starts.specs.Start.{is_main, same_name}

pub option_or_assoc : {A : Type 0} (x y z : Option A)
    → option_or (option_or x y) z ≡ option_or x (option_or y z)
option_or_assoc None y z = refl
option_or_assoc (Some x) y z = refl

-- where not both are there, it doesn't matter which comes first
pub option_or_comm : {A : Type 0} (x y : Option A) → ((a b : A) → x ≡ Some a → y ≡ Some b → ⊥)
    → option_or x y ≡ option_or y x
option_or_comm None y h = sym (none_after y)
option_or_comm (Some a) None h = refl
option_or_comm (Some a) (Some b) h = absurd (h a b refl refl)

pub first_given-append : {X Y : Type 0} (f : X → Option Y) (xs ys : List X)
    → first_given f (xs ++ ys) ≡ option_or (first_given f xs) (first_given f ys)
first_given-append f [] ys = refl
first_given-append f (x ∷ xs) ys = ap (λ r. option_or (f x) r) (first_given-append f xs ys)
    ∙ sym (option_or_assoc (f x) (first_given f xs) (first_given f ys))

-- the item of which something was given
pub record Given {X Y : Type 0} (f : X → Option Y) (xs : List X) (y : Y) : Type 0 where
  pub index : ℕ
  pub item : X
  pub at : slice_get xs index ≡ Some item
  pub is : f item ≡ Some y

later : {X Y : Type 0} (f : X → Option Y) (x : X) (xs : List X) (y : Y) → Given f xs y → Given f (x ∷ xs) y
later f x xs y g = record { index = suc g.index; item = g.item; at = g.at; is = g.is }

given_here : {X Y : Type 0} (f : X → Option Y) (x : X) (xs : List X) (y : Y) (o : Option Y) → f x ≡ o
    → option_or o (first_given f xs) ≡ Some y → (first_given f xs ≡ Some y → Given f xs y)
    → Given f (x ∷ xs) y
given_here f x xs y None e h more = later f x xs y (more h)
given_here f x xs y (Some z) e h more = record { index = 0; item = x; at = refl; is = e ∙ h }

pub given : {X Y : Type 0} (f : X → Option Y) (xs : List X) (y : Y) → first_given f xs ≡ Some y → Given f xs y
given f [] y h = absurd cc
given f (x ∷ xs) y h = given_here f x xs y (f x) refl h (given f xs y)

pub found : {X : Type 0} (p : X → Bool) (xs : List X) (x : X) → find p xs ≡ Some x
    → slice_get xs (position_or_len p xs) ≡ Some x
found p xs x h = sym (find_at p xs) ∙ h

-- ---- what names mean is there

pub given_by : {A : Type 0} (x y : Option A) (w : A) → option_or x y ≡ Some w → (x ≡ Some w) ⊎ (y ≡ Some w)
given_by None y w h = inr h
given_by (Some v) y w h = inl h

pub map_inv : {A B : Type 0} (f : A → B) (o : Option A) (y : B) → option_map f o ≡ Some y
    → (x : A) × (o ≡ Some x) × (f x ≡ y)
map_inv f None y h = absurd cc
map_inv f (Some x) y h = (x, refl, cc)

pub exported_of : (test : Export → Bool) (p : PartSeen) (x : Exported) → export_that test p ≡ Some x
    → p ≡ x.part
exported_of test p x h = let m =
    map_inv (λ e. record { part = p; export = e }) (find test p.component.exports) x h in
    ap (λ (y : Exported). y.part) m.2

then_inv : (test : Export → Bool) (o : Option PartSeen) (x : Exported)
    → option_and_then (export_that test) o ≡ Some x → (p : PartSeen) × (o ≡ Some p) × (p ≡ x.part)
then_inv test None x h = absurd cc
then_inv test (Some p) x h = (p, refl, exported_of test p x h)

pub imported_of : (parts : List PartSeen) (i : Import) (x : Exported) → imported parts i ≡ Some x
    → (k : ℕ) × (slice_get parts k ≡ Some x.part)
imported_of parts i x h =
    let m = then_inv (λ e. same_name e.name i.name) (part_named parts i.part) x h in (
      position_or_len (λ p. same_name p.component.name i.part)
          parts,
      found (λ p. same_name p.component.name i.part) parts m.0 m.1 ∙ ap Some m.2,
    )

pub main_there : (parts : List PartSeen) (x : Exported) → main_of parts ≡ Some x
    → (k : ℕ) × (slice_get parts k ≡ Some x.part)
main_there parts x h = let g =
    given (export_that is_main) parts x h in (g.index, g.at ∙ ap Some (exported_of is_main g.item x g.is))

-- ---- what is left of a list

pub left_at : {X : Type 0} (xs : List X) (i : ℕ) (x : X) → slice_get xs i ≡ Some x
    → drop i xs ≡ x ∷ drop (i + 1) xs
left_at xs i x h = drop_more xs i x (slice_get_within xs i x h)
    ∙ ap (λ y. y ∷ drop (i + 1) xs) (get_or_from_slice_get xs i x x h)

pub taken_at : {X : Type 0} (xs : List X) (i : ℕ) (x : X) → slice_get xs i ≡ Some x
    → take (i + 1) xs ≡ take i xs ++ x ∷ []
taken_at xs i x h = take_more xs i x (slice_get_within xs i x h)
    ∙ ap (λ y. take i xs ++ y ∷ []) (get_or_from_slice_get xs i x x h)

pub found_here : {X : Type 0} (p : X → Bool) (xs : List X) (i : ℕ) (x : X) → slice_get xs i ≡ Some x
    → find p (drop i xs) ≡ find p xs → p x ≡ true → Some x ≡ find p xs
found_here p xs i x at h t = let l = left_at xs i x at in sym (rw (← h, l, t) refl)

pub not_here : {X : Type 0} (p : X → Bool) (xs : List X) (i : ℕ) (x : X) → slice_get xs i ≡ Some x
    → find p (drop i xs) ≡ find p xs → p x ≡ false → find p (drop (i + 1) xs) ≡ find p xs
not_here p xs i x at h f = let l = left_at xs i x at in sym (rw (← h, l, f) refl)

pub given_first : {X Y : Type 0} (f : X → Option Y) (xs : List X) (i : ℕ) (x : X) (y : Y)
    → slice_get xs i ≡ Some x → first_given f (drop i xs) ≡ first_given f xs → f x ≡ Some y
    → Some y ≡ first_given f xs
given_first f xs i x y at h t = let l = left_at xs i x at in sym (rw (← h, l, t) refl)

pub none_given : {X Y : Type 0} (f : X → Option Y) (xs : List X) (i : ℕ) (x : X) → slice_get xs i ≡ Some x
    → first_given f (drop i xs) ≡ first_given f xs → f x ≡ None
    → first_given f (drop (i + 1) xs) ≡ first_given f xs
none_given f xs i x at h n = let l = left_at xs i x at in sym (rw (← h, l, n) refl)

-- ---- what code finds

-- the answer of a search over a part's exports, with the part
pub exported_is : (test : Export → Bool) (p : PartSeen) (es : List Export) (o : Option Export)
    (r : Option Exported)
    → r ≡ option_map (λ e. record { part = p; export = e }) o → o ≡ find test es → es ≡ p.component.exports
    → export_that test p ≡ r
exported_is test p es o r h k e =
    sym (h ∙ ap (λ x. option_map (λ e. record { part = p; export = e }) x) (k ∙ ap (find test) e))

pub imported_is : (parts : List PartSeen) (i : Import) (p : PartSeen) (r : Option Exported)
    → part_named parts i.part ≡ Some p → export_that (λ e. same_name e.name i.name) p ≡ r
    → r ≡ imported parts i
imported_is parts i p r named is = sym (rw (named, is) refl)
