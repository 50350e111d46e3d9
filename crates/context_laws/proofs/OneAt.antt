-- At an address one part alone has a word.
use Rattle.std.proofs.Common.{◌≡◌, inl, inr, ℕ, ◌-◌, ◌<◌, ◌≤◌, false, List, [], ◌∷◌, length, Option, Some}
use Rattle.std.proofs.Common.{None, refl, sym, ap, ◌∙◌, arith}
use Rattle.std.specs.Prelude.{slice_get}
use Rattle.std.specs.Option.{option_or}
use Rattle.std.specs.List.{Contains}
use Rattle.std.proofs.lemmas.Bool.{cases_order}
use Rattle.std.proofs.lemmas.Option.{slice_get_within}
use Rattle.cap_words.specs.declared.Word.{Word}
use Rattle.lcm_machine.specs.Regions.{Region}
use Rattle.lcm_machine.proofs.Offers.{contains_cases, contains_none}
use Rattle.linked_starts.specs.Parts.{PartSeen, IsPart}
use Rattle.linked_starts.specs.Pairs.{NoneIsBroken}
use Rattle.linked_starts.specs.Links.{rules_l}
use Rattle.linked_starts.specs.Regions.{part_regions}
use Rattle.linked_starts.specs.Start.{data_word, first_given, from, part_word}
use Rattle.linked_starts.proofs.Offers.{apart_parts, code_in, data_in, data_within, from_inv, given_by}
use Rattle.linked_starts.proofs.Offers.{is_kept, regions_apart, whole}
use Rattle.overlay_machine.proofs.Offers.{contains_first, contains_rest, index_of}

-- where a part has a word, there is a region of it
record WordIn (p : PartSeen) (a : ℕ) : Type 0 where
  pub area : Region
  pub of : Contains (part_regions p) area
  pub low : area.base ≤ a
  pub high : a ≤ area.end

word_in : (parts : List PartSeen) (p : PartSeen) → IsPart p → (a : ℕ) (w : Word)
    → part_word parts a p ≡ Some w → WordIn p a
unfolding part_word
word_in parts p is a w e =
    elim (given_by (from p.component.code_base (slice_get p.component.code) a)
    (from p.component.data_base (data_word parts p.component) a) w e) as (λ _. WordIn p a) [
      | inl c ↦ (
          let k = from_inv p.component.code_base (slice_get p.component.code) a w c in
          let low = k.0 in
          let lt = slice_get_within p.component.code (a - p.component.code_base) w k.1 in
          record {
            area = whole p.component.code_base (length p.component.code) false;
            of = code_in p is.limits.code.0.0;
            low = low;
            high = omega (arith, low, lt);
          }
          )
      | inr d ↦ (
          let k = from_inv p.component.data_base (data_word parts p.component) a w d in
          let low = k.0 in
          let lt = data_within parts p (is_kept p is) (a - p.component.data_base) w k.1 in
          record {
            area = whole p.component.data_base (length p.component.data_words) false;
            of = data_in p is.limits.data_words.0.0;
            low = low;
            high = omega (arith, low, lt);
          }
          )
    ]

abbrev pub OneAt : List PartSeen → Type 0
OneAt parts =
    (a : ℕ) (p q : PartSeen) (w v : Word) → Contains parts p → Contains parts q
    → part_word parts a p ≡ Some w → part_word parts a q ≡ Some v → p ≡ q

pub one_at : (parts : List PartSeen) (size : ℕ) → NoneIsBroken (rules_l parts size)
    → ((p : PartSeen) → Contains parts p → IsPart p) → OneAt parts
one_at parts size rules each a p q w v m n e f =
    elim (cases_order i.0 j.0) as (λ _. p ≡ q) [
      | inl k ↦ (let x : Some p ≡ Some q = sym i.1 ∙ ap (slice_get parts) k ∙ j.1 in cc)
      | inr (inl lt) ↦ absurd (apart i.0 j.0 p q i.1 j.1 lt x y)
      | inr (inr gt) ↦ absurd (apart j.0 i.0 q p j.1 i.1 gt y x)
    ]
  where
    i : (k : ℕ) × (slice_get parts k ≡ Some p)
    i = index_of parts p m

    j : (k : ℕ) × (slice_get parts k ≡ Some q)
    j = index_of parts q n

    x : WordIn p a
    x = word_in parts p (each p m) a w e

    y : WordIn q a
    y = word_in parts q (each q n) a v f

    apart : (i j : ℕ) (p q : PartSeen) → slice_get parts i ≡ Some p → slice_get parts j ≡ Some q → i < j
        → WordIn p a → WordIn q a → ⊥
    apart i j p q at at' lt x y =
        let xl = x.low in
        let xh = x.high in
        let yl = y.low in
        let yh = y.high in
        elim (apart_parts parts size i j p q x.area y.area (regions_apart parts size rules) lt at at' x.of
        y.of) as (λ _. ⊥) [
          | inl b ↦ omega (arith, xl, xh, yl, yh, b)
          | inr b ↦ omega (arith, xl, xh, yl, yh, b)
        ]

-- what one item alone gives is what is given
pub given_alone : {A B : Type 0} (f : A → Option B) (xs : List A) (x : A) (y : B) → Contains xs x
    → f x ≡ Some y → ((z : A) (u : B) → Contains xs z → f z ≡ Some u → z ≡ x) → first_given f xs ≡ Some y
given_alone f [] x y m e only = absurd (contains_none x m)
given_alone f (z ∷ zs) x y m e only =
    by (f z) refl (λ n. given_alone f zs x y n e (λ v u k. only v u (contains_rest z v zs k)))
  where
    by : (o : Option _) → f z ≡ o → (Contains zs x → first_given f zs ≡ Some y)
        → option_or o (first_given f zs) ≡ Some y
    by (Some u) i more = sym i ∙ ap f (only z u (contains_first z zs) i) ∙ e
    by None i more = elim (contains_cases z zs x m) as (λ _. option_or None (first_given f zs) ≡ Some y) [
      | inl k ↦ absurd (let bad : None ≡ Some y = sym i ∙ ap f k ∙ e in cc)
      | inr n ↦ more n
    ]
