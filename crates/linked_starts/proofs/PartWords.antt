-- The words that parts have at addresses: slots don't share a word, and parts no address.
use Rattle.std.proofs.Common.{◌≡◌, ◌≢◌, ◌⊎◌, ℕ, zero, suc, ◌+◌, ◌-◌, ◌<◌, ◌≤◌, true, false, List, [], ◌∷◌}
use Rattle.std.proofs.Common.{length, take, get_or, Option, Some, None, refl, sym, ap, ◌∙◌, arith, inl, inr}
use Rattle.std.proofs.Common.{le-leb, leb-true, eq-eqb}
use Rattle.std.specs.Prelude.{slice_get, nat_le, ◌==◌, if◌then◌else◌}
use Rattle.std.specs.List.{Contains, AllPairs}
use Rattle.std.specs.Option.{option_or}
use Rattle.std.proofs.lemmas.Bool.{cases_eq, cases_lt, cases_Bool, ne_eqb}
use Rattle.std.proofs.lemmas.List.{take_all}
use Rattle.std.proofs.lemmas.Option.{slice_get-get_or, slice_get_within}
use Rattle.lcm_machine.proofs.Offers.{none_after}
use Rattle.cap_words.specs.declared.Word.{Word}
use Rattle.component_file.specs.declared.component.Import.{Import}
use Rattle.lcm_machine.specs.Regions.{Region}
use Rattle.linked_starts.specs.Parts.{PartSeen}
use Rattle.linked_starts.specs.Regions.{Apart, part_regions, regions_of}
use Rattle.linked_starts.specs.Start.{first_given, Exported, imported, code_half, data_half, slot_word}
use Rattle.linked_starts.specs.Start.{data_word, from, part_word}
use Rattle.linked_starts.specs.Linked.{Kept, AreClosed, AreSeparate}
use Rattle.linked_starts.proofs.Found.{given, first_given-append, option_or_comm, taken_at, given_by}
use Rattle.linked_starts.proofs.RegionFacts.{apart_parts, code_in, data_in, whole}
use Rattle.linked_starts.specs.Laying.{single}

-- ---- what stands from an address on

from_no : (base : ℕ) (f : ℕ → Option Word) (a : ℕ) → a < base → from base f a ≡ None
from_no base f a lt = elim (cases_Bool (nat_le base a)) as (λ _. from base f a ≡ None) [
  | inl t ↦ (let le = leb-true base a t in absurd (omega (arith, le, lt)))
  | inr f ↦ rw f refl
]

pub from_yes : (base : ℕ) (f : ℕ → Option Word) (a : ℕ) → base ≤ a → from base f a ≡ f (a - base)
from_yes base f a le = let t = le-leb base a le in rw t refl

pub from_inv : (base : ℕ) (f : ℕ → Option Word) (a : ℕ) (w : Word) → from base f a ≡ Some w
    → (base ≤ a) × (f (a - base) ≡ Some w)
from_inv base f a w h = elim (cases_lt a base) as (λ _. (base ≤ a) × (f (a - base) ≡ Some w)) [
  | inl lt ↦ (let n = from_no base f a lt in absurd (let e : None ≡ Some w = sym n ∙ h in cc))
  | inr le ↦ (le, sym (from_yes base f a le) ∙ h)
]

pub from_or : (base : ℕ) (f g : ℕ → Option Word) (a : ℕ)
    → from base (λ o. option_or (f o) (g o)) a ≡ option_or (from base f a) (from base g a)
from_or base f g a =
    elim (cases_Bool (nat_le base a))
    as (λ _. from base (λ o. option_or (f o) (g o)) a ≡ option_or (from base f a) (from base g a))
    [ inl t ↦ rw t refl | inr n ↦ rw n refl ]

-- ---- slots

pub taken_get : {X : Type 0} (xs : List X) (k j : ℕ) (x : X) → slice_get (take k xs) j ≡ Some x
    → (j < k) × (slice_get xs j ≡ Some x)
taken_get [] zero j x h = absurd cc
taken_get [] (suc k) j x h = absurd cc
taken_get (y ∷ xs) zero j x h = absurd cc
taken_get (y ∷ xs) (suc k) zero x h = (omega arith, h)
taken_get (y ∷ xs) (suc k) (suc j) x h = let r = taken_get xs k j x h in (omega (arith, r.0), r.1)

-- each slot is two or more above those before it
rising : (is : List Import)
    → ((k : ℕ) (i j : Import) → slice_get is k ≡ Some i → slice_get is (k + 1) ≡ Some j → i.slot + 2 ≤ j.slot)
    → (d k : ℕ) (i j : Import) → slice_get is k ≡ Some i → slice_get is (k + 1 + d) ≡ Some j
    → i.slot + 2 ≤ j.slot
rising is step zero k i j at_k at_n = let e : k + 1 + 0 ≡ k + 1 =
    omega arith in step k i j at_k (rw e at at_n)
rising is step (suc d) k i j at_k at_n =
    let e : k + 1 + suc d ≡ k + 1 + d + 1 = omega arith in
    let at_next : slice_get is (k + 1 + d + 1) ≡ Some j = ap (slice_get is) (sym e) ∙ at_n in
    let within = slice_get_within is (k + 1 + d + 1) j at_next in
    let m : Import = get_or is (k + 1 + d) i in
    let at_m : slice_get is (k + 1 + d) ≡ Some m =
    slice_get-get_or is (k + 1 + d) i (omega (arith, within)) in
    let low = rising is step d k i m at_k at_m in
    let high = step (k + 1 + d) m j at_m at_next in
    omega (arith, low, high)

pub slots_below : (p : PartSeen) → Kept p → (k n : ℕ) (i j : Import) → k < n
    → slice_get p.component.imports k ≡ Some i → slice_get p.component.imports n ≡ Some j
    → i.slot + 2 ≤ j.slot
slots_below p kept k n i j lt at_k at_n =
    let e : n ≡ k + 1 + (n - k - 1) = omega (arith, lt) in
    rising p.component.imports kept.slots_apart (n - k - 1)
    k i j at_k (ap (slice_get p.component.imports) (sym e) ∙ at_n)

slot_no : (parts : List PartSeen) (o : ℕ) (i : Import) → i.slot ≢ o → i.slot + 1 ≢ o
    → slot_word parts o i ≡ None
slot_no parts o i ne nx = let f = ne_eqb i.slot o ne in let g = ne_eqb (i.slot + 1) o nx in rw (f, g) refl

pub slot_inv : (parts : List PartSeen) (o : ℕ) (i : Import) (w : Word) → slot_word parts o i ≡ Some w
    → (i.slot ≡ o) ⊎ (i.slot + 1 ≡ o)
slot_inv parts o i w h = elim (cases_eq i.slot o) as (λ _. (i.slot ≡ o) ⊎ (i.slot + 1 ≡ o)) [
  | inl e ↦ inl e
  | inr ne ↦ elim (cases_eq (i.slot + 1) o) as (λ _. (i.slot ≡ o) ⊎ (i.slot + 1 ≡ o)) [
    | inl e ↦ inr e
    | inr nx ↦ (let n = slot_no parts o i ne nx in absurd (let e : None ≡ Some w = sym n ∙ h in cc))
  ]
]

-- an import's two words
two_words : (parts : List PartSeen) (i : Import) (x : Exported) (base a : ℕ) (r : Option Word)
    → imported parts i ≡ Some x
    → option_or (single (base + i.slot + 1) (data_half x) a)
    (option_or (single (base + i.slot) (code_half x) a) r)
    ≡ option_or (from base (λ o. slot_word parts o i) a) r
two_words parts i x base a r is =
    elim (cases_eq a (base + i.slot))
    as (λ _. option_or (single (base + i.slot + 1) (data_half x) a)
    (option_or (single (base + i.slot) (code_half x) a) r)
    ≡ option_or (from base (λ o. slot_word parts o i) a) r) [
      | inl e ↦ (
          let n = ne_eqb a (base + i.slot + 1) (omega (arith, e)) in
          let t = eq-eqb a (base + i.slot) e in
          let l = le-leb base a (omega (arith, e)) in
          let o : (i.slot == (a - base)) ≡ true = eq-eqb i.slot (a - base) (omega (arith, e)) in
          rw (n, t, l, o, is) refl
          )
      | inr ne ↦
          elim (cases_eq a (base + i.slot + 1))
          as (λ _. option_or (single (base + i.slot + 1) (data_half x) a)
          (option_or (single (base + i.slot) (code_half x) a) r)
          ≡ option_or (from base (λ o. slot_word parts o i) a) r) [
            | inl e ↦ (
                let t = eq-eqb a (base + i.slot + 1) e in
                let l = le-leb base a (omega (arith, e)) in
                let n = ne_eqb i.slot (a - base) (omega (arith, e)) in
                let o : (i.slot + 1 == (a - base)) ≡ true =
                eq-eqb (i.slot + 1) (a - base) (omega (arith, e)) in
                rw (t, l, n, o, is) refl
                )
            | inr nx ↦ (
                let n = ne_eqb a (base + i.slot) ne in
                let m = ne_eqb a (base + i.slot + 1) nx in
                rw (m, n) (ap (λ y. option_or y r) (sym (outside ne nx)))
                )
          ]
    ]
  where
    outside : a ≢ base + i.slot → a ≢ base + i.slot + 1 → from base (λ o. slot_word parts o i) a ≡ None
    outside ne nx = elim (cases_lt a base) as (λ _. from base (λ o. slot_word parts o i) a ≡ None) [
      | inl lt ↦ from_no base (λ o. slot_word parts o i) a lt
      | inr le ↦ from_yes base (λ o. slot_word parts o i) a le
          ∙ slot_no parts (a - base) i (omega (arith, le, ne)) (omega (arith, le, nx))
    ]

-- the words of the imports before one
abbrev pub slots_upto : List PartSeen → List Import → ℕ → ℕ → Option Word
slots_upto parts is k o = first_given (slot_word parts o) (take k is)

slots_next : (parts : List PartSeen) (is : List Import) (k : ℕ) (i : Import) → slice_get is k ≡ Some i
    → (o : ℕ) → slots_upto parts is (k + 1) o ≡ option_or (slots_upto parts is k o) (slot_word parts o i)
slots_next parts is k i at o =
    ap (first_given (slot_word parts o)) (taken_at is k i at)
    ∙ first_given-append (slot_word parts o) (take k is) (i ∷ [])
    ∙ ap (λ y. option_or (slots_upto parts is k o) y) (none_after (slot_word parts o i))

slots_differ : (parts : List PartSeen) (p : PartSeen) (k : ℕ) (i : Import) → Kept p
    → slice_get p.component.imports k ≡ Some i → (o : ℕ) (v u : Word) → slot_word parts o i ≡ Some v
    → slots_upto parts p.component.imports k o ≡ Some u → ⊥
slots_differ parts p k i kept at o v u this before =
    let g = given (slot_word parts o) (take k p.component.imports) u before in
    let t = taken_get p.component.imports k g.index g.item g.at in
    let low = slots_below p kept g.index k g.item i t.0 t.1 at in
    elim (slot_inv parts o i v this) as (λ _. ⊥) [
      | inl e ↦
          elim (slot_inv parts o g.item u g.is) as (λ _. ⊥)
          [ inl d ↦ omega (arith, e, d, low) | inr d ↦ omega (arith, e, d, low) ]
      | inr e ↦
          elim (slot_inv parts o g.item u g.is) as (λ _. ⊥)
          [ inl d ↦ omega (arith, e, d, low) | inr d ↦ omega (arith, e, d, low) ]
    ]

pub slots_more : (parts : List PartSeen) (p : PartSeen) (k : ℕ) (i : Import) (x : Exported) → Kept p
    → slice_get p.component.imports k ≡ Some i → imported parts i ≡ Some x → (base a : ℕ)
    → option_or (single (base + i.slot + 1) (data_half x) a)
    (option_or (single (base + i.slot) (code_half x) a)
    (from base (slots_upto parts p.component.imports k) a))
    ≡ from base (slots_upto parts p.component.imports (k + 1)) a
slots_more parts p k i x kept at is base a =
    two_words parts i x base a (from base (slots_upto parts p.component.imports k) a) is
    ∙ option_or_comm (from base (λ o. slot_word parts o i) a)
    (from base (slots_upto parts p.component.imports k) a)
    (λ v u h b. slots_differ parts p k i kept at (a - base)
    v u (from_inv base (λ o. slot_word parts o i) a v h).1
    (from_inv base (slots_upto parts p.component.imports k) a u b).1)
    ∙ sym (from_or base (slots_upto parts p.component.imports k) (λ o. slot_word parts o i) a)
    ∙ ap (λ y. if nat_le base a then y else None)
    (sym (slots_next parts p.component.imports k i at (a - base)))

pub slots_all : (parts : List PartSeen) (is : List Import) (base a : ℕ)
    → from base (slots_upto parts is (length is)) a ≡ from base (λ o. first_given (slot_word parts o) is) a
slots_all parts is base a =
    ap (λ y. if nat_le base a then y else None)
    (ap (first_given (slot_word parts (a - base))) (take_all (length is) is (omega arith)))

-- ---- the words of a part

-- laid in this order: data, slots, code
pub part_words : (parts : List PartSeen) (p : PartSeen) (a : ℕ)
    → option_or (from p.component.code_base (slice_get p.component.code) a)
    (option_or (from p.component.data_base (λ o. first_given (slot_word parts o) p.component.imports) a)
    (from p.component.data_base (slice_get p.component.data_words) a)) ≡ part_word parts a p
unfolding part_word
part_words parts p a =
    ap (λ y. option_or (from p.component.code_base (slice_get p.component.code) a) y)
    (sym (from_or p.component.data_base (λ o. first_given (slot_word parts o) p.component.imports)
    (slice_get p.component.data_words) a))

-- an address at which a part has a word lies in its code or in its data
pub record Standing (p : PartSeen) (a : ℕ) : Type 0 where
  pub region : Region
  pub of : Contains (part_regions p) region
  pub low : region.base ≤ a
  pub high : a ≤ region.end

pub data_within : (parts : List PartSeen) (p : PartSeen) → Kept p → (o : ℕ) (w : Word)
    → data_word parts p.component o ≡ Some w → o < length p.component.data_words
data_within parts p kept o w h =
    elim (given_by (first_given (slot_word parts o) p.component.imports) (slice_get p.component.data_words o)
    w h) as (λ _. o < length p.component.data_words) [
      | inl s ↦ (
          let g = given (slot_word parts o) p.component.imports w s in
          let l = kept.slots_in g.index g.item g.at in
          elim (slot_inv parts o g.item w g.is) as (λ _. o < length p.component.data_words)
          [ inl e ↦ omega (arith, l, e) | inr e ↦ omega (arith, l, e) ]
          )
      | inr d ↦ slice_get_within p.component.data_words o w d
    ]

pub standing : (parts : List PartSeen) (p : PartSeen) → Kept p → (a : ℕ) (w : Word)
    → part_word parts a p ≡ Some w → Standing p a
unfolding part_word
standing parts p kept a w h =
    elim (given_by (from p.component.code_base (slice_get p.component.code) a)
    (from p.component.data_base (data_word parts p.component) a) w h) as (λ _. Standing p a) [
      | inl c ↦ (
          let k = from_inv p.component.code_base (slice_get p.component.code) a w c in
          let lt = slice_get_within p.component.code (a - p.component.code_base) w k.1 in
          record {
            region = whole p.component.code_base (length p.component.code) false;
            of =
                code_in p kept.limits.code.0.0;
            low = k.0;
            high = omega (arith, k.0, lt);
          }
          )
      | inr d ↦ (
          let k = from_inv p.component.data_base (data_word parts p.component) a w d in
          let lt = data_within parts p kept (a - p.component.data_base) w k.1 in
          record {
            region = whole p.component.data_base (length p.component.data_words) false;
            of =
                data_in p kept.limits.data_words.0.0;
            low = k.0;
            high = omega (arith, k.0, lt);
          }
          )
    ]

-- ---- parts

pub separate : (parts : List PartSeen) (size : ℕ) → AreClosed parts → AllPairs Apart (regions_of parts size)
    → AreSeparate parts
separate parts size closed apart = record {
  apart = λ k n a p q w v lt at_k at_n h l.
      let s = standing parts p (closed.kept k p at_k) a w h in
      let t = standing parts q (closed.kept n q at_n) a v l in
      elim (apart_parts parts size k n p q s.region t.region apart lt at_k at_n s.of t.of) as (λ _. ⊥) [
        | inl e ↦ omega (arith, s.low, s.high, t.low, t.high, e)
        | inr e ↦ omega (arith, s.low, s.high, t.low, t.high, e)
      ];
}

-- the words of the parts before one
abbrev pub parts_upto : List PartSeen → ℕ → ℕ → Option Word
parts_upto parts k a = first_given (part_word parts a) (take k parts)

pub parts_more : (parts : List PartSeen) (k : ℕ) (p : PartSeen) → AreSeparate parts
    → slice_get parts k ≡ Some p → (a : ℕ)
    → option_or (part_word parts a p) (parts_upto parts k a) ≡ parts_upto parts (k + 1) a
parts_more parts k p separate at a =
    option_or_comm (part_word parts a p) (parts_upto parts k a)
    (λ w v h b. let g = given (part_word parts a) (take k parts) v b in let t =
    taken_get parts k g.index g.item g.at in separate.apart g.index k a g.item p v w t.0 t.1 at g.is h)
    ∙ sym (ap (first_given (part_word parts a)) (taken_at parts k p at)
    ∙ first_given-append (part_word parts a) (take k parts) (p ∷ [])
    ∙ ap (λ y. option_or (parts_upto parts k a) y) (none_after (part_word parts a p)))

pub parts_all : (parts : List PartSeen) (a : ℕ)
    → parts_upto parts (length parts) a ≡ first_given (part_word parts a) parts
parts_all parts a = ap (first_given (part_word parts a)) (take_all (length parts) parts (omega arith))
