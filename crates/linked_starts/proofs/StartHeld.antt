-- The capabilities of a start: where they stand, that each lies in one region, and that no linear address is
-- held twice.
use Rattle.std.proofs.Common.{◌≡◌, ◌⊎◌, ℕ, zero, suc, ◌+◌, ◌-◌, ◌<◌, ◌≤◌, Bool, true, false, List, [], ◌∷◌}
use Rattle.std.proofs.Common.{◌++◌, length, Option, Some, None, refl, sym, ap, subst, ◌∙◌, arith, inl, inr}
use Rattle.std.proofs.Common.{pos, lt-ltb}
use Rattle.std.specs.Prelude.{slice_get, IsTrue, nat_lt, ◌==◌, option_map, if◌then◌else◌}
use Rattle.std.specs.List.{Contains}
use Rattle.std.proofs.lemmas.Bool.{cases_order, false≢true, cases_Bool}
use Rattle.std.proofs.lemmas.Bool.Decides.{nat_tests}
use Rattle.std.proofs.lemmas.Option.{slice_get_within}
use Rattle.cap_words.specs.declared.Word.{Word}
use Rattle.cap_words.specs.declared.Word.TheVariants.{Int, Mem, Seal, Sealed}
use Rattle.cap_words.specs.declared.CapFields.{CapFields}
use Rattle.cap_words.specs.Linear.{lin_is}
use Rattle.cap_words.specs.WordBytes.{WordFits, IsUnsealed}
use Rattle.component_file.specs.declared.component.Import.{Import}
use Rattle.component_file.specs.Limits.{Chain}
use Rattle.lcm_isa.specs.declared.Reg.{Reg}
use Rattle.lcm_isa.specs.declared.Reg.TheVariants.{Pc, Rcode, Rdata, Stk, Dat, T1, T2, C1, C2, A0, A1, A2, A3}
use Rattle.lcm_isa.specs.declared.Reg.TheVariants.{G0, G1, G2}
use Rattle.lcm_machine.specs.declared.Place.{Place}
use Rattle.lcm_machine.specs.declared.Place.TheVariants.{R, Cell}
use Rattle.lcm_machine.specs.Maps.{Regs, State}
use Rattle.lcm_machine.specs.Places.{reg}
use Rattle.lcm_machine.specs.Cells.{cell}
use Rattle.lcm_machine.specs.Row.{word_at}
use Rattle.lcm_machine.specs.Regions.{Region, IsLinearAt, InOneRegion, memory_of, is_over, word_over}
use Rattle.lcm_machine.specs.Regions.{InRegions, CoveredOnce, HeldOnce}
use Rattle.lcm_machine.proofs.Offers.{normal_apart, over_bounds}
use Rattle.linked_starts.specs.Parts.{PartSeen}
use Rattle.linked_starts.specs.Regions.{Apart, part_regions, regions_of, region, stack_span, in_regions}
use Rattle.linked_starts.specs.Start.{first_given, Exported, imported, main_of, code_of, data_of}
use Rattle.linked_starts.specs.Start.{code_half, data_half, stack_of, slot_word, data_word, from}
use Rattle.linked_starts.specs.Start.{part_word, start_cell, start_regs, stack_base_of}
use Rattle.linked_starts.specs.Linked.{HasRange, IsOwn, Kept, AreClosed, Linked}
use Rattle.linked_starts.proofs.Found.{given, imported_of, main_there, given_by}
use Rattle.linked_starts.proofs.RegionFacts.{whole, code_in, data_in, linear_in, stack_in, part_region_of}
use Rattle.linked_starts.proofs.RegionFacts.{stack_region_of, apart_parts, apart_stack, apart_all}
use Rattle.linked_starts.proofs.RegionFacts.{size_bounds}
use Rattle.linked_starts.proofs.PartWords.{from_inv}

-- ---- words of a part, by their place in code and data

abbrev pub words_of : PartSeen → List Word
words_of p = p.component.code ++ p.component.data_words

-- where the word of an index stands
abbrev pub address_of : PartSeen → ℕ → ℕ
address_of p i =
    if nat_lt i (length p.component.code)
    then p.component.code_base + i else p.component.data_base + (i - length p.component.code)

pub get_left : (xs ys : List Word) (k : ℕ) (w : Word) → slice_get xs k ≡ Some w
    → slice_get (xs ++ ys) k ≡ Some w
get_left [] ys k w h = absurd cc
get_left (x ∷ xs) ys zero w h = h
get_left (x ∷ xs) ys (suc k) w h = get_left xs ys k w h

pub get_right : (xs ys : List Word) (k : ℕ) (w : Word) → slice_get ys k ≡ Some w
    → slice_get (xs ++ ys) (length xs + k) ≡ Some w
get_right [] ys k w h = let e : 0 + k ≡ k = omega arith in rw e h
get_right (x ∷ xs) ys k w h = let e : suc (length xs) + k ≡ suc (length xs + k) =
    omega arith in rw e (get_right xs ys k w h)

-- where the index comes from
get_cases : (xs ys : List Word) (k : ℕ) (w : Word) → slice_get (xs ++ ys) k ≡ Some w
    → (slice_get xs k ≡ Some w) ⊎ (slice_get ys (k - length xs) ≡ Some w)
get_cases [] ys k w h = let e : k - 0 ≡ k = omega arith in inr (rw e h)
get_cases (x ∷ xs) ys zero w h = inl h
get_cases (x ∷ xs) ys (suc k) w h = let e : suc k - suc (length xs) ≡ k - length xs =
    omega arith in
    elim (get_cases xs ys k w h)
    as (λ _. (slice_get (x ∷ xs) (suc k) ≡ Some w) ⊎ (slice_get ys (suc k - suc (length xs)) ≡ Some w))
    [ inl a ↦ inl a | inr b ↦ inr (rw e b) ]

pub each_at : (ws : List Word) (b : Option Word) (k : ℕ) (w : Word)
    → Chain (λ _ x. WordFits x × IsUnsealed x) b ws → slice_get ws k ≡ Some w → WordFits w × IsUnsealed w
each_at [] b k w h at = absurd cc
each_at (x ∷ xs) b zero w h at = let e : x ≡ w = cc in subst (λ y. WordFits y × IsUnsealed y) e h.0
each_at (x ∷ xs) b (suc k) w h at = each_at xs (Some x) k w h.1 at

pub word_fits : (p : PartSeen) (k : ℕ) (w : Word) → Kept p → slice_get (words_of p) k ≡ Some w
    → WordFits w × IsUnsealed w
word_fits p k w kept at =
    elim (get_cases p.component.code p.component.data_words k w at) as (λ _. WordFits w × IsUnsealed w) [
      | inl a ↦ each_at p.component.code None k w kept.limits.code.1 a
      | inr b ↦ each_at p.component.data_words None (k - length p.component.code) w kept.limits.data_words.1 b
    ]

-- no word of a part is sealed, so a memory capability of one is the word itself
itself : (w : Word) (c : CapFields) → IsUnsealed w → memory_of w ≡ Some c → w ≡ Mem c
itself (Int n) c u h = absurd cc
itself (Mem d) c u h = let e : d ≡ c = cc in ap Mem e
itself (Seal s) c u h = absurd cc
itself (Sealed o x) c u h = absurd u

-- ---- which capabilities a start has

pub data HasCap (parts : List PartSeen) (size : ℕ) (place : Place) (c : CapFields) : Type 0 where
  over_code : (k : ℕ) (x : Exported) → slice_get parts k ≡ Some x.part → code_of x ≡ c
      → HasCap parts size place c
  over_data : (k : ℕ) (p : PartSeen) → slice_get parts k ≡ Some p → data_of p ≡ c → HasCap parts size place c
  over_stack : place ≡ R Stk → stack_of (stack_base_of parts) size ≡ c → HasCap parts size place c
  own_word : (k i : ℕ) (p : PartSeen) → slice_get parts k ≡ Some p → slice_get (words_of p) i ≡ Some (Mem c)
      → place ≡ Cell (address_of p i) → HasCap parts size place c

reg_cap : (parts : List PartSeen) (size : ℕ) (main : Exported) (k : ℕ) (r : Reg) (c : CapFields)
    → slice_get parts k ≡ Some main.part → memory_of (reg (start_regs parts size main) r) ≡ Some c
    → HasCap parts size (R r) c
unfolding start_regs
reg_cap parts size main k Pc c at h = over_code k main at cc
reg_cap parts size main k Rcode c at h = absurd cc
reg_cap parts size main k Rdata c at h = absurd cc
reg_cap parts size main k Stk c at h = over_stack refl cc
reg_cap parts size main k Dat c at h = over_data k main.part at cc
reg_cap parts size main k T1 c at h = absurd cc
reg_cap parts size main k T2 c at h = absurd cc
reg_cap parts size main k C1 c at h = absurd cc
reg_cap parts size main k C2 c at h = absurd cc
reg_cap parts size main k A0 c at h = absurd cc
reg_cap parts size main k A1 c at h = absurd cc
reg_cap parts size main k A2 c at h = absurd cc
reg_cap parts size main k A3 c at h = absurd cc
reg_cap parts size main k G0 c at h = absurd cc
reg_cap parts size main k G1 c at h = absurd cc
reg_cap parts size main k G2 c at h = absurd cc

-- the words of an import are halves
half_cap : (parts : List PartSeen) (size a : ℕ) (i : Import) (x : Option Exported) (first second : Bool)
    (w : Word) (c : CapFields)
    → imported parts i ≡ x
    → (if first then option_map code_half x else (if second then option_map data_half x else None)) ≡ Some w
    → memory_of w ≡ Some c → HasCap parts size (Cell a) c
half_cap parts size a i None true second w c is h m = absurd cc
half_cap parts size a i None false true w c is h m = absurd cc
half_cap parts size a i None false false w c is h m = absurd cc
half_cap parts size a i (Some x) true second w c is h m =
    let e : code_half x ≡ w = cc in let n : memory_of (code_half x) ≡ Some c = ap memory_of e ∙ m in let k =
    imported_of parts i x is in over_code k.0 x k.1 cc
half_cap parts size a i (Some x) false true w c is h m =
    let e : data_half x ≡ w = cc in let n : memory_of (data_half x) ≡ Some c = ap memory_of e ∙ m in let k =
    imported_of parts i x is in over_data k.0 x.part k.1 cc
half_cap parts size a i (Some x) false false w c is h m = absurd cc

slot_cap : (parts : List PartSeen) (size o a : ℕ) (i : Import) (w : Word) (c : CapFields)
    → slot_word parts o i ≡ Some w → memory_of w ≡ Some c → HasCap parts size (Cell a) c
slot_cap parts size o a i w c h m =
    half_cap parts size a i (imported parts i) (i.slot == o) (i.slot + 1 == o) w c refl h m

own_cap : (parts : List PartSeen) (size k i a : ℕ) (p : PartSeen) (w : Word) (c : CapFields) → Kept p
    → slice_get parts k ≡ Some p → slice_get (words_of p) i ≡ Some w → address_of p i ≡ a
    → memory_of w ≡ Some c → HasCap parts size (Cell a) c
own_cap parts size k i a p w c kept at word here m =
    let e = itself w c (word_fits p i w kept word).1 m in
    own_word k i p at (word ∙ ap Some e) (ap Cell (sym here))

code_address : (p : PartSeen) (a : ℕ) → p.component.code_base ≤ a
    → a - p.component.code_base < length p.component.code → address_of p (a - p.component.code_base) ≡ a
code_address p a low lt = let t = lt-ltb _ _ lt in rw t (omega (arith, low))

data_address : (p : PartSeen) (a : ℕ) → p.component.data_base ≤ a
    → address_of p (length p.component.code + (a - p.component.data_base)) ≡ a
data_address p a low =
    let n = length p.component.code in
    let f : nat_lt (n + (a - p.component.data_base)) n ≡ false = grind (arith, nat_tests) in
    rw f (omega (arith, low))

word_cap : (parts : List PartSeen) (size k a : ℕ) (p : PartSeen) (w : Word) (c : CapFields) → Kept p
    → slice_get parts k ≡ Some p → part_word parts a p ≡ Some w → memory_of w ≡ Some c
    → HasCap parts size (Cell a) c
unfolding part_word
word_cap parts size k a p w c kept at h m =
    elim (given_by (from p.component.code_base (slice_get p.component.code) a)
    (from p.component.data_base (data_word parts p.component) a) w h) as (λ _. HasCap parts size (Cell a) c) [
      | inl code ↦ (
          let f = from_inv p.component.code_base (slice_get p.component.code) a w code in
          own_cap parts size k (a - p.component.code_base)
          a p w c kept at (get_left p.component.code p.component.data_words (a - p.component.code_base) w f.1)
          (code_address p a f.0 (slice_get_within p.component.code (a - p.component.code_base) w f.1)) m
          )
      | inr words ↦ (
          let f = from_inv p.component.data_base (data_word parts p.component) a w words in
          let o = a - p.component.data_base in
          elim (given_by (first_given (slot_word parts o) p.component.imports)
          (slice_get p.component.data_words o) w f.1) as (λ _. HasCap parts size (Cell a) c) [
            | inl slot ↦
                (let g = given (slot_word parts o) p.component.imports w slot in
                slot_cap parts size o a g.item w c g.is m)
            | inr own ↦
                own_cap parts size k (length p.component.code + o)
                a p w c kept at (get_right p.component.code p.component.data_words o w own)
                (data_address p a f.0)
                m
          ]
          )
    ]

zero_no : (b : Bool) (w : Word) (c : CapFields) → (if b then Some (Int (pos 0)) else None) ≡ Some w
    → memory_of w ≡ Some c → ⊥
zero_no true w c h m = let e : Int (pos 0) ≡ w = cc in let n : memory_of (Int (pos 0)) ≡ Some c =
    ap memory_of e ∙ m in cc
zero_no false w c h m = cc

cell_cap : (parts : List PartSeen) (size a : ℕ) (w : Word) (c : CapFields) → AreClosed parts
    → start_cell parts size a ≡ Some w → memory_of w ≡ Some c → HasCap parts size (Cell a) c
unfolding start_cell
cell_cap parts size a w c closed h m =
    elim (given_by (first_given (part_word parts a) parts)
    (if in_regions a (regions_of parts size) then Some (Int (pos 0)) else None) w h)
    as (λ _. HasCap parts size (Cell a) c) [
      | inl found ↦
          (let g = given (part_word parts a) parts w found in
          word_cap parts size g.index a g.item w c (closed.kept g.index g.item g.at) g.at g.is m)
      | inr z ↦ absurd (zero_no (in_regions a (regions_of parts size)) w c z m)
    ]

-- the maps of a start
pub record StartMaps (parts : List PartSeen) (size : ℕ) (s : State Word) : Type 0 where
  pub main : Exported
  pub main_is : main_of parts ≡ Some main
  pub regs : s.regs ≡ start_regs parts size main
  pub cells : (a : ℕ) → cell s.cells a ≡ start_cell parts size a

pub cap_at : (parts : List PartSeen) (size : ℕ) (s : State Word) (place : Place) (w : Word) (c : CapFields)
    → Linked parts size → StartMaps parts size s → word_at s place ≡ Some w → memory_of w ≡ Some c
    → HasCap parts size place c
cap_at parts size s (R r) w c linked start h m =
    let k = main_there parts start.main start.main_is in
    let e : reg s.regs r ≡ w = cc in
    reg_cap parts size start.main k.0 r c k.1
    (ap (λ (rs : Regs Word). memory_of (reg rs r)) (sym start.regs) ∙ ap memory_of e ∙ m)
cap_at parts size s (Cell a) w c linked start h m =
    cell_cap parts size a w c linked.closed (sym (start.cells a) ∙ h) m

-- ---- each lies in one region

in_part : (parts : List PartSeen) (size k : ℕ) (p : PartSeen) (r : Region) (c : CapFields)
    → slice_get parts k ≡ Some p → Contains (part_regions p) r → r.base ≤ c.base → c.base ≤ c.end
    → c.end ≤ r.end → lin_is c.lin ≡ r.linear → InOneRegion (regions_of parts size) c
in_part parts size k p r c at m low order high lin =
    (r, part_region_of parts size k p r at m, low, order, high, lin)

in_order : (p : PartSeen) (i : ℕ) (c : CapFields) → Kept p → slice_get (words_of p) i ≡ Some (Mem c)
    → c.base ≤ c.end
in_order p i c kept at = (word_fits p i (Mem c) kept at).0.0.0

own_in : (parts : List PartSeen) (size k : ℕ) (p : PartSeen) (c : CapFields) → Kept p
    → slice_get parts k ≡ Some p → c.base ≤ c.end → IsOwn p.component c
    → InOneRegion (regions_of parts size) c
own_in parts size k p c kept at order (inl h) =
    let r = whole p.component.code_base (length p.component.code) false in
    in_part parts size k p r c at (code_in p kept.limits.code.0.0)
    h.1.0 order (let lt = h.1.1 in omega (arith, lt)) h.0
own_in parts size k p c kept at order (inr (inl h)) =
    let r = whole p.component.data_base (length p.component.data_words) false in
    in_part parts size k p r c at (data_in p kept.limits.data_words.0.0)
    h.1.0 order (let lt = h.1.1 in omega (arith, lt)) h.0
own_in parts size k p c kept at order (inr (inr h)) =
    let r = whole p.component.linear.base p.component.linear.count true in
    let low = h.1.0 in
    let lt = h.1.1 in
    in_part parts size k p r c at (linear_in p (omega (arith, low, lt, order))) low order (omega (arith, lt))
    h.0

code_cap_in : (parts : List PartSeen) (size k : ℕ) (x : Exported) → Kept x.part
    → slice_get parts k ≡ Some x.part → InOneRegion (regions_of parts size) (code_of x)
code_cap_in parts size k x kept at =
    let some = kept.limits.code.0.0 in
    in_part parts size k x.part (whole x.part.component.code_base (length x.part.component.code) false)
    (code_of x) at (code_in x.part some) (omega arith) (omega (arith, some)) (omega arith) refl

data_cap_in : (parts : List PartSeen) (size k : ℕ) (p : PartSeen) → Kept p → slice_get parts k ≡ Some p
    → InOneRegion (regions_of parts size) (data_of p)
data_cap_in parts size k p kept at =
    let some = kept.limits.data_words.0.0 in
    in_part parts size k p (whole p.component.data_base (length p.component.data_words) false)
    (data_of p) at (data_in p some) (omega arith) (omega (arith, some)) (omega arith) refl

pub stack_there : (parts : List PartSeen) (size k : ℕ) (p : PartSeen) → Linked parts size
    → slice_get parts k ≡ Some p
    → Contains (region true (stack_span parts size)) (whole (stack_base_of parts) size true)
stack_there parts size k p linked at =
    stack_in parts size k p at linked.size_fits (size_bounds size linked.size_fits).0

stack_cap_in : (parts : List PartSeen) (size k : ℕ) (p : PartSeen) → Linked parts size
    → slice_get parts k ≡ Some p → InOneRegion (regions_of parts size) (stack_of (stack_base_of parts) size)
stack_cap_in parts size k p linked at =
    let some = (size_bounds size linked.size_fits).0 in (
      whole (stack_base_of parts) size true,
      stack_region_of parts size (whole (stack_base_of parts) size true)
          (stack_there parts size k p linked at),
      omega arith,
      omega (arith, some),
      omega arith,
      refl,
    )

cap_in : (parts : List PartSeen) (size n : ℕ) (q : PartSeen) (place : Place) (c : CapFields)
    → Linked parts size → slice_get parts n ≡ Some q → HasCap parts size place c
    → InOneRegion (regions_of parts size) c
cap_in parts size n q place c linked first (over_code k x at is) =
    subst (InOneRegion (regions_of parts size))
    is (code_cap_in parts size k x (linked.closed.kept k x.part at) at)
cap_in parts size n q place c linked first (over_data k p at is) =
    subst (InOneRegion (regions_of parts size)) is (data_cap_in parts size k p (linked.closed.kept k p at) at)
cap_in parts size n q place c linked first (over_stack here is) =
    subst (InOneRegion (regions_of parts size)) is (stack_cap_in parts size n q linked first)
cap_in parts size n q place c linked first (own_word k i p at word here) =
    let kept = linked.closed.kept k p at in own_in parts size k p c kept at (in_order p i c kept word)
    (kept.own i c word)

pub fits : (parts : List PartSeen) (size : ℕ) (s : State Word) → Linked parts size → StartMaps parts size s
    → InRegions (λ w. w) (regions_of parts size) s
fits parts size s linked start place w there c m =
    let k = main_there parts start.main start.main_is in
    cap_in parts size k.0 start.main.part place c linked k.1
    (cap_at parts size s place w c linked start there m)

-- ---- no linear address is held twice

-- a place with a linear capability over an address
pub data Holder (parts : List PartSeen) (size : ℕ) (place : Place) (a : ℕ) : Type 0 where
  the_stack : place ≡ R Stk → stack_base_of parts ≤ a → a < stack_base_of parts + size
      → Holder parts size place a
  a_word : (k i : ℕ) (p : PartSeen) (c : CapFields) → slice_get parts k ≡ Some p
      → slice_get (words_of p) i ≡ Some (Mem c) → place ≡ Cell (address_of p i)
      → lin_is c.lin ≡ true → c.base ≤ a → a ≤ c.end
      → HasRange p.component.linear.base p.component.linear.count c → Holder parts size place a

linear_range : (p : PartSeen) (c : CapFields) → lin_is c.lin ≡ true → IsOwn p.component c
    → HasRange p.component.linear.base p.component.linear.count c
linear_range p c lin (inl h) = absurd (let e = h.0 in false≢true (sym e ∙ lin))
linear_range p c lin (inr (inl h)) = absurd (let e = h.0 in false≢true (sym e ∙ lin))
linear_range p c lin (inr (inr h)) = h.1

linear_holder : (parts : List PartSeen) (size a : ℕ) (place : Place) (c : CapFields) → Linked parts size
    → HasCap parts size place c → lin_is c.lin ≡ true → c.base ≤ a → a ≤ c.end → Holder parts size place a
linear_holder parts size a place c linked (over_code k x at is) lin low high =
    absurd (let e : false ≡ lin_is c.lin = ap (λ (d : CapFields). lin_is d.lin) is in false≢true (e ∙ lin))
linear_holder parts size a place c linked (over_data k p at is) lin low high =
    absurd (let e : false ≡ lin_is c.lin = ap (λ (d : CapFields). lin_is d.lin) is in false≢true (e ∙ lin))
linear_holder parts size a place c linked (over_stack here is) lin low high =
    let b : stack_base_of parts ≡ c.base = ap (λ (d : CapFields). d.base) is in
    let e : stack_base_of parts + size - 1 ≡ c.end = ap (λ (d : CapFields). d.end) is in
    let some = (size_bounds size linked.size_fits).0 in
    the_stack here (omega (arith, b, low)) (omega (arith, e, high, some))
linear_holder parts size a place c linked (own_word k i p at word here) lin low high =
    a_word k i p c at word here lin low high (linear_range p c lin ((linked.closed.kept k p at).own i c word))

pub no_overlap : (r q : Region) (a : ℕ) → Apart r q → r.base ≤ a → a ≤ r.end → q.base ≤ a → a ≤ q.end → ⊥
no_overlap r q a (inl e) low high below above = omega (arith, e, low, high, below, above)
no_overlap r q a (inr e) low high below above = omega (arith, e, low, high, below, above)

-- the linear area of a part, at an address of it
area_there : (p : PartSeen) (a : ℕ) (c : CapFields) → c.base ≤ a → a ≤ c.end
    → HasRange p.component.linear.base p.component.linear.count c
    → Contains (part_regions p) (whole p.component.linear.base p.component.linear.count true)
    × (p.component.linear.base ≤ a) × (a ≤ p.component.linear.base + p.component.linear.count - 1)
area_there p a c low high range =
    let from' = range.0 in
    let to = range.1 in
    (linear_in p (omega (arith, low, high, from', to)), omega (arith, low, from'), omega (arith, high, to))

stack_alone : (parts : List PartSeen) (size k a : ℕ) (p : PartSeen) (c : CapFields) → Linked parts size
    → slice_get parts k ≡ Some p → c.base ≤ a → a ≤ c.end
    → HasRange p.component.linear.base p.component.linear.count c
    → stack_base_of parts ≤ a → a < stack_base_of parts + size → ⊥
stack_alone parts size k a p c linked at low high range from' to =
    let area = area_there p a c low high range in
    no_overlap (whole p.component.linear.base p.component.linear.count true)
    (whole (stack_base_of parts) size true) a
    (apart_stack parts size k p (whole p.component.linear.base p.component.linear.count true)
    (whole (stack_base_of parts) size true) linked.apart at area.0 (stack_there parts size k p linked at))
    area.1 area.2 from' (omega (arith, to))

parts_alone : (parts : List PartSeen) (size k n a : ℕ) (p q : PartSeen) (c d : CapFields) → Linked parts size
    → k < n → slice_get parts k ≡ Some p → slice_get parts n ≡ Some q
    → c.base ≤ a → a ≤ c.end → HasRange p.component.linear.base p.component.linear.count c → d.base ≤ a
    → a ≤ d.end → HasRange q.component.linear.base q.component.linear.count d → ⊥
parts_alone parts size k n a p q c d linked lt at_k at_n low high range below above stretch =
    let one = area_there p a c low high range in
    let two = area_there q a d below above stretch in
    no_overlap (whole p.component.linear.base p.component.linear.count true)
    (whole q.component.linear.base q.component.linear.count true) a
    (apart_parts parts size k n p q (whole p.component.linear.base p.component.linear.count true)
    (whole q.component.linear.base q.component.linear.count true) linked.apart lt at_k at_n one.0 two.0)
    one.1 one.2 two.1 two.2

words_alone : (p : PartSeen) (i j a : ℕ) (c d : CapFields) → Kept p → i < j
    → slice_get (words_of p) i ≡ Some (Mem c) → slice_get (words_of p) j ≡ Some (Mem d) → lin_is c.lin ≡ true
    → lin_is d.lin ≡ true
    → c.base ≤ a → a ≤ c.end → d.base ≤ a → a ≤ d.end → ⊥
words_alone p i j a c d kept lt at_i at_j c_lin d_lin low high below above =
    elim (kept.once i j c d lt at_i at_j c_lin d_lin) as (λ _. ⊥)
    [ inl e ↦ omega (arith, e, low, high, below, above) | inr e ↦ omega (arith, e, low, high, below, above) ]

one_holder : (parts : List PartSeen) (size a : ℕ) (x y : Place) → Linked parts size → Holder parts size x a
    → Holder parts size y a → x ≡ y
one_holder parts size a x y linked (the_stack here low high) (the_stack there below above) = here ∙ sym there
one_holder parts size a x y linked (the_stack here low high)
    (a_word k i p c at word there lin below above range) =
    absurd (stack_alone parts size k a p c linked at below above range low high)
one_holder parts size a x y linked (a_word k i p c at word here lin low high range)
    (the_stack there below above) =
    absurd (stack_alone parts size k a p c linked at low high range below above)
one_holder parts size a x y linked (a_word k i p c at word here lin low high range)
    (a_word n j q d at_n other there linear below above stretch) =
    elim (cases_order k n) as (λ _. x ≡ y) [
      | inl same ↦ (
          let e : Some p ≡ Some q = sym at ∙ ap (slice_get parts) same ∙ at_n in
          let pq : p ≡ q = cc in
          let other' : slice_get (words_of p) j ≡ Some (Mem d) =
          ap (λ z. slice_get (words_of z) j) pq ∙ other in
          elim (cases_order i j) as (λ _. x ≡ y) [
            | inl index ↦ here ∙ ap (λ z. Cell (address_of z i)) pq ∙ ap (λ z. Cell (address_of q z)) index
                ∙ sym there
            | inr (inl lt) ↦
                absurd (words_alone p i j a c d (linked.closed.kept k p at)
                lt word other' lin linear low high below above)
            | inr (inr gt) ↦
                absurd (words_alone p j i a d c (linked.closed.kept k p at)
                gt other' word linear lin below above low high)
          ]
          )
      | inr (inl lt) ↦
          absurd (parts_alone parts size k n a p q c d linked lt at at_n low high range below above stretch)
      | inr (inr gt) ↦
          absurd (parts_alone parts size n k a q p d c linked gt at_n at below above stretch low high range)
    ]

-- what covers an address of a linear region is a linear capability
holder_of : (parts : List PartSeen) (size a : ℕ) (s : State Word) (place : Place) (o : Option CapFields)
    (w : Word)
    → Linked parts size → StartMaps parts size s → IsLinearAt (regions_of parts size) a
    → word_at s place ≡ Some w → memory_of w ≡ o → IsTrue (is_over o a) → Holder parts size place a
holder_of parts size a s place None w linked start linear there m over = absurd cc
holder_of parts size a s place (Some c) w linked start linear there m over =
    let cap = cap_at parts size s place w c linked start there m in
    let inside = fits parts size s linked start place w there c m in
    let bounds = over_bounds c a over in
    elim (cases_Bool (lin_is c.lin)) as (λ _. Holder parts size place a) [
      | inl lin ↦ linear_holder parts size a place c linked cap lin bounds.0 bounds.1
      | inr normal ↦
          absurd (normal_apart (regions_of parts size) c a (apart_all (regions_of parts size) linked.apart)
          inside normal linear over)
    ]

holder_at : (parts : List PartSeen) (size a : ℕ) (s : State Word) (place : Place) (o : Option Word)
    → Linked parts size → StartMaps parts size s → IsLinearAt (regions_of parts size) a
    → word_at s place ≡ o → IsTrue (word_over (λ w. w) o a) → Holder parts size place a
holder_at parts size a s place None linked start linear there over = absurd cc
holder_at parts size a s place (Some w) linked start linear there over =
    holder_of parts size a s place (memory_of w) w linked start linear there refl over

pub covered_once : (parts : List PartSeen) (size : ℕ) (s : State Word) → Linked parts size
    → StartMaps parts size s → CoveredOnce (λ w. w) (regions_of parts size) s
covered_once parts size s linked start a linear x y over_x over_y =
    one_holder parts size a x y linked
    (holder_at parts size a s x (word_at s x) linked start linear refl over_x)
    (holder_at parts size a s y (word_at s y) linked start linear refl over_y)

-- each capability of a start lies in one region, and no linear address is held twice
pub held_once : (parts : List PartSeen) (size : ℕ) (s : State Word) → Linked parts size
    → StartMaps parts size s → HeldOnce (λ w. w) (regions_of parts size) s
held_once parts size s linked start = (fits parts size s linked start, covered_once parts size s linked start)
