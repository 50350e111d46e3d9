-- How the words of the modules' globals stand in the data of their parts.
use Rattle.std.proofs.Common.{◌≡◌, ◌≢◌, inl, inr, ℕ, zero, suc, ◌+◌, ◌<◌, ℤ, pos, true, List, [], ◌∷◌}
use Rattle.std.proofs.Common.{length, Some, None, refl, sym, ap, ◌∙◌, subst, arith}
use Rattle.std.specs.Prelude.{slice_get, slice_index_or, slice_set}
use Rattle.std.proofs.lemmas.Bool.{cases_eq}
use Rattle.cap_words.specs.declared.Word.TheVariants.{Int}
use Rattle.lcm_machine.specs.Table.{fits_64}
use Rattle.linked_starts.specs.Parts.{PartSeen}
use Rattle.overlay_machine.specs.declared.words.OWord.{OWord}
use Rattle.overlay_machine.specs.declared.words.OWord.TheVariants.{Plain}
use Rattle.overlay_machine.specs.Link.{Link, IsTrusted, data_region}
use Rattle.overlay_machine.specs.Linked.{IsLink}
use Rattle.overlay_machine.proofs.Offers.{listed_at, same_region}
use Rattle.proc_language.specs.declared.module.ModuleFields.{ModuleFields}
use Rattle.proc_program.specs.Lower.{part_of}
use Rattle.proc_templates.specs.Compiled.{pair_count, data_count}
use Rattle.proc_templates.proofs.Offers.{data-length}
use Rattle.proc_semantics.specs.Values.{Store, global_word, set_word}
use Rattle.template_runs.proofs.Offers.{mem_with, mem_same, mem_other}
use Rattle.source_starts.proofs.Worlds.{NamesApart, Home, one_home, one_place}

-- ---- lists

pub set_length : {A : Type 0} (xs : List A) (i : ℕ) (v : A) → length (slice_set xs i v) ≡ length xs
set_length [] i v = refl
set_length (x ∷ xs) zero v = refl
set_length (x ∷ xs) (suc i) v = ap suc (set_length xs i v)

pub set_same : {A : Type 0} (xs : List A) (i : ℕ) (v d : A) → i < length xs
    → slice_index_or (slice_set xs i v) i d ≡ v
set_same [] i v d lt = absurd (omega (arith, lt))
set_same (x ∷ xs) zero v d lt = refl
set_same (x ∷ xs) (suc i) v d lt = set_same xs i v d (omega (arith, lt))

pub set_other : {A : Type 0} (xs : List A) (i j : ℕ) (v d : A) → j ≢ i
    → slice_index_or (slice_set xs i v) j d ≡ slice_index_or xs j d
set_other [] i j v d ne = refl
set_other (x ∷ xs) zero zero v d ne = absurd (ne refl)
set_other (x ∷ xs) zero (suc j) v d ne = refl
set_other (x ∷ xs) (suc i) zero v d ne = refl
set_other (x ∷ xs) (suc i) (suc j) v d ne = set_other xs i j v d (λ e. ne (ap suc e))

-- there is a list where it has items
there_is : {A : Type 0} (xss : List (List A)) (i o : ℕ) → o < length (slice_index_or xss i [])
    → i < length xss
there_is [] i o h = absurd (omega (arith, h))
there_is (xs ∷ xss) zero o h = omega arith
there_is (xs ∷ xss) (suc i) o h = let k = there_is xss i o h in omega (arith, k)

pub index_is : {A : Type 0} (xs : List A) (i : ℕ) (x d : A) → slice_get xs i ≡ Some x
    → slice_index_or xs i d ≡ x
index_is [] i x d e = absurd (let z : None ≡ Some x = e in cc)
index_is (y ∷ xs) zero x d e = let s : y ≡ x = cc in s
index_is (y ∷ xs) (suc i) x d e = index_is xs i x d e

-- ---- numbers of 64 bits

-- ---- globals

-- the words of all globals are in memory after the pairs of their module, which are as at the start
pub record StoreIs (modules : List ModuleFields) (parts : List PartSeen) (first : ℕ → OWord) (st : Store)
    (mem : ℕ → OWord) : Type 0 where
  pub numbers : (i : ℕ) (p : PartSeen) (h : Home modules parts i p) (o : ℕ)
      → o < length (part_of h.source).globals
      → mem (p.component.data_base + (pair_count (part_of h.source) + o)) ≡ Plain (Int (global_word st i o))
  pub fits : (i : ℕ) (p : PartSeen) (h : Home modules parts i p) (o : ℕ)
      → o < length (part_of h.source).globals
      → fits_64 (global_word st i o) ≡ true
  pub rows : (i : ℕ) (p : PartSeen) (h : Home modules parts i p)
      → length (slice_index_or st i []) ≡ length (part_of h.source).globals
  pub pairs : (i : ℕ) (p : PartSeen) (h : Home modules parts i p) (d : ℕ) → d < pair_count (part_of h.source)
      → mem (p.component.data_base + d) ≡ first (p.component.data_base + d)

pub data_size : (modules : List ModuleFields) (parts : List PartSeen) (i : ℕ) (p : PartSeen)
    (h : Home modules parts i p)
    → length p.component.data_words ≡ pair_count (part_of h.source) + length (part_of h.source).globals
unfolding data_count
data_size modules parts i p h = ap length h.placed.data_is ∙ data-length (part_of h.source)

module _ (modules : List ModuleFields) (g : Link) (linked : IsLink g) (apart : NamesApart g.parts)
    (first : ℕ → OWord) where
  abbrev Homed : ℕ → PartSeen → Type 0
  Homed = Home modules g.parts

  is_trusted : (i : ℕ) (p : PartSeen) → Homed i p → IsTrusted g p
  is_trusted i p h = (listed_at g.parts h.number p h.number_is, h.trusted)

  -- the data of two modules lie apart
  data_apart : (i j : ℕ) (p q : PartSeen) (h : Homed i p) (k : Homed j q) (a b : ℕ) → i ≢ j
      → a < length p.component.data_words → b < length q.component.data_words
      → p.component.data_base + a ≢ q.component.data_base + b
  data_apart i j p q h k a b ne la lb e =
      let same = same_region g linked (data_region p) (data_region q) (p.component.data_base + a)
      (linked.data_there p (is_trusted i p h)) (linked.data_there q (is_trusted j q k)) (omega arith)
      (omega (arith, la)) (omega (arith, e)) (omega (arith, e, lb)) in
      let one = linked.one_data p q (is_trusted i p h) (is_trusted j q k) same in
      ne (one_home modules g.parts apart i j p h (subst (Homed j) (sym one) k))

  module _ (i : ℕ) (p : PartSeen) (h : Homed i p) where
    abbrev Count : ℕ
    Count = length (part_of h.source).globals

    abbrev Pairs : ℕ
    Pairs = pair_count (part_of h.source)

    module _ (st : Store) (mem : ℕ → OWord) (o : ℕ) (v : ℤ) (s : StoreIs modules g.parts first st mem)
        (lt : o < Count)
        (fit : fits_64 v ≡ true) where
      abbrev At : ℕ
      At = p.component.data_base + (Pairs + o)

      size : length p.component.data_words ≡ Pairs + Count
      size = data_size modules g.parts i p h

      rowed : length (slice_index_or st i []) ≡ Count
      rowed = s.rows i p h

      there : i < length st
      there = let r = rowed in there_is st i o (omega (arith, r, lt))

      row : slice_index_or (set_word st i o v) i [] ≡ slice_set (slice_index_or st i []) o v
      row = set_same st i (slice_set (slice_index_or st i []) o v) [] there

      row_other : (j : ℕ) → j ≢ i → slice_index_or (set_word st i o v) j [] ≡ slice_index_or st j []
      row_other j ne = set_other st i j (slice_set (slice_index_or st i []) o v) [] ne

      same_base : (q : PartSeen) (k : Homed i q) → q.component.data_base ≡ p.component.data_base
      same_base q k = ap (λ (x : PartSeen). x.component.data_base) (one_place modules g.parts i q p k h)

      -- what stands at another place of the same module, and in another module
      other_word : (j : ℕ) (q : PartSeen) (k : Homed j q) (x : ℕ) → x < length (part_of k.source).globals
          → (j ≡ i → x ≢ o) → global_word (set_word st i o v) j x ≡ global_word st j x
      other_word j q k x lx ne =
          elim (cases_eq j i) as (λ _. global_word (set_word st i o v) j x ≡ global_word st j x) [
            | inl e ↦ (
                ap (λ n. global_word (set_word st i o v) n x) e ∙ ap (λ xs. slice_index_or xs x (pos 0)) row
                ∙ set_other (slice_index_or st i []) o x v (pos 0) (ne e) ∙ ap (λ n. global_word st n x)
                (sym e))
            | inr n ↦ ap (λ xs. slice_index_or xs x (pos 0)) (row_other j n)
          ]

      other_place : (j : ℕ) (q : PartSeen) (k : Homed j q) (x : ℕ) → x < length q.component.data_words
          → (j ≡ i → x ≢ Pairs + o) → q.component.data_base + x ≢ At
      other_place j q k x lx ne e = elim (cases_eq j i) as (λ _. ⊥) [
        | inl z ↦ (
            let k' = subst (λ n. Homed n q) z k in
            let b = same_base q k' in
            ne z (omega (arith, b, e)))
        | inr n ↦ (let w = size in data_apart j i q p k h x (Pairs + o) n lx (omega (arith, w, lt)) e)
      ]

      set_here : global_word (set_word st i o v) i o ≡ v
      set_here = let r = rowed in
          ap (λ xs. slice_index_or xs o (pos 0)) row
          ∙ set_same (slice_index_or st i []) o v (pos 0) (omega (arith, r, lt))

      abbrev Here : ℕ → PartSeen → ℕ → ℕ → Type 0
      Here j q n x = mem_with mem At (Plain (Int v)) (q.component.data_base + (n + x))
          ≡ Plain (Int (global_word (set_word st i o v) j x))

      numbers : (j : ℕ) (q : PartSeen) (k : Homed j q) (x : ℕ) → x < length (part_of k.source).globals
          → Here j q (pair_count (part_of k.source)) x
      numbers j q k x lx = elim (cases_eq j i) as (λ _. Here j q (pair_count (part_of k.source)) x) [
        | inl z ↦ elim (cases_eq x o) as (λ _. Here j q (pair_count (part_of k.source)) x) [
          | inl y ↦ (
              let k' = subst (λ n. Homed n q) z k in
              let b = same_base q k' in
              let c : pair_count (part_of k.source) ≡ Pairs =
              ap (λ (m : ModuleFields). pair_count (part_of m)) (source_same j q k z) in
              let a : q.component.data_base + (pair_count (part_of k.source) + x) ≡ At =
              omega (arith, b, c, y) in
              ap (mem_with mem At (Plain (Int v))) a ∙ mem_same mem At (Plain (Int v))
              ∙ ap (λ w. Plain (Int w)) (sym (ap (λ n. global_word (set_word st i o v) n x) z
              ∙ ap (global_word (set_word st i o v) i) y ∙ set_here)))
          | inr y ↦ away j q k x lx (λ w. y) (λ w e. y (
              let c : pair_count (part_of k.source) ≡ Pairs =
              ap (λ (m : ModuleFields). pair_count (part_of m)) (source_same j q k z) in omega (arith, c, e)))
        ]
        | inr n ↦ away j q k x lx (λ w. absurd (n w)) (λ w. absurd (n w))
      ]
        where
          source_same : (j : ℕ) (q : PartSeen) (k : Homed j q) → j ≡ i → k.source ≡ h.source
          source_same j q k z =
              let a : Some k.source ≡ Some h.source = sym k.source_is ∙ ap (slice_get modules) z
              ∙ h.source_is in cc

          away : (j : ℕ) (q : PartSeen) (k : Homed j q) (x : ℕ) → x < length (part_of k.source).globals
              → (j ≡ i → x ≢ o) → (j ≡ i → pair_count (part_of k.source) + x ≢ Pairs + o)
              → Here j q (pair_count (part_of k.source)) x
          away j q k x lx ne np =
              let w = data_size modules g.parts j q k in
              mem_other mem At _ (Plain (Int v))
              (other_place j q k (pair_count (part_of k.source) + x) (omega (arith, w, lx)) np)
              ∙ s.numbers j q k x lx ∙ ap (λ w. Plain (Int w)) (sym (other_word j q k x lx ne))

      fits : (j : ℕ) (q : PartSeen) (k : Homed j q) (x : ℕ) → x < length (part_of k.source).globals
          → fits_64 (global_word (set_word st i o v) j x) ≡ true
      fits j q k x lx = elim (cases_eq j i) as (λ _. fits_64 (global_word (set_word st i o v) j x) ≡ true) [
        | inl z ↦ elim (cases_eq x o) as (λ _. fits_64 (global_word (set_word st i o v) j x) ≡ true) [
          | inl y ↦ ap fits_64 (ap (λ n. global_word (set_word st i o v) n x) z
              ∙ ap (global_word (set_word st i o v) i) y ∙ set_here) ∙ fit
          | inr y ↦ ap fits_64 (other_word j q k x lx (λ w. y)) ∙ s.fits j q k x lx
        ]
        | inr n ↦ ap fits_64 (other_word j q k x lx (λ w. absurd (n w))) ∙ s.fits j q k x lx
      ]

      rows : (j : ℕ) (q : PartSeen) (k : Homed j q)
          → length (slice_index_or (set_word st i o v) j []) ≡ length (part_of k.source).globals
      rows j q k = elim (cases_eq j i) as (λ _. length (slice_index_or (set_word st i o v) j []) ≡ length
          (part_of k.source).globals) [
            | inl z ↦ ap (λ n. length (slice_index_or (set_word st i o v) n [])) z ∙ ap length row
                ∙ set_length (slice_index_or st i []) o v ∙ ap (λ n. length (slice_index_or st n [])) (sym z)
                ∙ s.rows j q k
            | inr n ↦ ap length (row_other j n) ∙ s.rows j q k
          ]

      pairs : (j : ℕ) (q : PartSeen) (k : Homed j q) (d : ℕ) → d < pair_count (part_of k.source)
          → mem_with mem At (Plain (Int v)) (q.component.data_base + d) ≡ first (q.component.data_base + d)
      pairs j q k d ld =
          let w = data_size modules g.parts j q k in
          mem_other mem At _ (Plain (Int v)) (other_place j q k d (omega (arith, w, ld)) (λ z e. (
          let c : pair_count (part_of k.source) ≡ Pairs = ap (λ (m : ModuleFields). pair_count (part_of m))
          (let a : Some k.source ≡ Some h.source = sym k.source_is ∙ ap (slice_get modules) z ∙ h.source_is in
          let b : k.source ≡ h.source = cc in b) in
          omega (arith, c, e, ld))))
          ∙ s.pairs j q k d ld

      -- a word of a global is set
      pub sets : StoreIs modules g.parts first (set_word st i o v)
          (mem_with mem (p.component.data_base + (Pairs + o)) (Plain (Int v)))
      sets = record { numbers = numbers; fits = fits; rows = rows; pairs = pairs }
