-- The cells of starts of links beside each other.
use Rattle.std.proofs.Common.{◌≡◌, inl, inr, ℕ, ◌+◌, ◌-◌, ◌≤◌, ◌<◌, pos, List, [], ◌∷◌, length, Option, Some}
use Rattle.std.proofs.Common.{None, Bool, true, false, refl, sym, ap, ◌∙◌, subst, arith, eq-eqb}
use Rattle.std.specs.Prelude.{slice_get, option_map, if◌then◌else◌, nat_le, ◌==◌}
use Rattle.std.specs.Option.{option_or}
use Rattle.std.specs.List.{Contains}
use Rattle.std.proofs.lemmas.Option.{slice_get_within}
use Rattle.cap_words.specs.declared.Word.{Word}
use Rattle.cap_words.specs.declared.Word.TheVariants.{Int, Mem, Seal, Sealed}
use Rattle.component_file.specs.declared.component.Import.{Import}
use Rattle.call_sequence.specs.SequenceRuns.{IsOutsideRange}
use Rattle.lcm_machine.specs.Cells.{cell}
use Rattle.linked_starts.specs.Parts.{PartSeen}
use Rattle.linked_starts.specs.Standing.{placed}
use Rattle.linked_starts.specs.Regions.{in_regions, regions_of}
use Rattle.linked_starts.specs.Start.{Exported, imported, code_half, data_half, slot_word, data_word, from}
use Rattle.linked_starts.specs.Start.{part_word, first_given, start_cell}
use Rattle.linked_starts.proofs.Offers.{given, given_by, is_kept, from_inv, data_within, imported_there}
use Rattle.linked_starts.proofs.Offers.{listed_at, OwnWord, own_code, own_data}
use Rattle.overlay_machine.specs.declared.words.OWord.{OWord}
use Rattle.overlay_machine.specs.declared.words.OWord.TheVariants.{Plain}
use Rattle.overlay_machine.specs.Link.{Link, IsTrusted, IsUntrusted}
use Rattle.overlay_machine.specs.Linked.{IsLink}
use Rattle.overlay_machine.specs.Safe.{IsOpenSeal}
use Rattle.overlay_machine.specs.Starting.{overlay_at, StartsBegin}
use Rattle.overlay_machine.proofs.Offers.{contains_first, contains_rest, is_overlay, start_word_is}
use Rattle.template_runs.specs.Public.{IsFreeAt}
use Rattle.source_starts.specs.Links.{overlay_link, first_state}
use Rattle.source_starts.specs.Sources.{LinkedStart}
use Rattle.source_starts.proofs.Offers.{held_at}
use Rattle.lockstep.specs.Related.{SameNames, IsOurs, SameWord, ours, code_halves, data_halves, CellPair}
use Rattle.context_laws.specs.Sources.{NamesOf, AreBeside, SameImported, ImportTheSame, PlacedStartsAlike}
use Rattle.overlay_machine.specs.Keeping.{HoldsFor}
use Rattle.lockstep.proofs.Offers.{in_region_of}
use Rattle.context_laws.proofs.Sources.{starts_alike}
use Rattle.context_laws.proofs.OneAt.{OneAt, one_at, given_alone}

-- a trusted part has no word at an address that is free
part_none : (g : Link) (linked : IsLink g) (parts : List PartSeen) (a : ℕ) (p : PartSeen) → IsTrusted g p
    → IsFreeAt g a → part_word parts a p ≡ None
unfolding part_word
part_none g linked parts a p ip free = by _ refl
  where
    apart : (b n o : ℕ) → b ≤ a → a - b < n → IsOutsideRange a b (b + n - 1) → ⊥
    apart b n o low lt (inl x) = omega (arith, low, x)
    apart b n o low lt (inr x) = omega (arith, low, lt, x)

    by : (x : Option Word) → option_or (from p.component.code_base (slice_get p.component.code) a)
        (from p.component.data_base (data_word parts p.component) a) ≡ x
        → option_or (from p.component.code_base (slice_get p.component.code) a)
        (from p.component.data_base (data_word parts p.component) a) ≡ None
    by None e = e
    by (Some w) e = elim (given_by (from p.component.code_base (slice_get p.component.code) a)
        (from p.component.data_base (data_word parts p.component) a) w e)
        as (λ _. option_or (from p.component.code_base (slice_get p.component.code) a)
        (from p.component.data_base (data_word parts p.component) a) ≡ None) [
          | inl c ↦ absurd (
              let f = from_inv p.component.code_base (slice_get p.component.code) a w c in
              let lt = slice_get_within p.component.code (a - p.component.code_base) w f.1 in
              apart p.component.code_base (length p.component.code) 0 f.0 lt (free.0 p ip))
          | inr d ↦ absurd (
              let f = from_inv p.component.data_base (data_word parts p.component) a w d in
              let lt = data_within parts p (is_kept p (linked.parts p ip.0)) (a - p.component.data_base) w f.1
              in
              apart p.component.data_base (length p.component.data_words) 0 f.0 lt (free.1 p ip))
        ]

module _ (g h : Link) (names : SameNames g h) (lg : IsLink g) (lh : IsLink h) where
  abbrev W : Word → Word → Type 0
  W w v = SameWord g h names [] (Plain w) (Plain v)

  -- both none, or both something that is the same
  abbrev Pair : Option Word → Option Word → Type 0
  Pair None None = Unit {0}
  Pair None (Some v) = ⊥
  Pair (Some w) None = ⊥
  Pair (Some w) (Some v) = W w v

  or_pair : (a b c d : Option Word) → Pair a b → Pair c d → Pair (option_or a c) (option_or b d)
  or_pair None None c d p q = q
  or_pair None (Some v) c d p q = absurd p
  or_pair (Some w) None c d p q = absurd p
  or_pair (Some w) (Some v) c d p q = p

  from_pair : (base a : ℕ) (f f' : ℕ → Option Word) → ((o : ℕ) → Pair (f o) (f' o))
      → Pair (from base f a) (from base f' a)
  from_pair base a f f' p = by (nat_le base a)
    where
      by : (b : Bool) → Pair (if b then f (a - base) else None) (if b then f' (a - base) else None)
      by true = p (a - base)
      by false = tt

  given_pair : (f f' : Import → Option Word) (is : List Import)
      → ((i : Import) → Contains is i → Pair (f i) (f' i)) → Pair (first_given f is) (first_given f' is)
  given_pair f f' [] p = tt
  given_pair f f' (i ∷ is) p =
      or_pair (f i) (f' i) (first_given f is) (first_given f' is) (p i (contains_first i is))
      (given_pair f f' is (λ k m. p k (contains_rest i k is m)))

  own_pair : (x : Option Word) → ((w : Word) → x ≡ Some w → IsOurs g w) → Pair x x
  own_pair None k = tt
  own_pair (Some w) k = ours w (k w refl)

  own_ours : (p : PartSeen) (w : Word) → OwnWord p.component w → IsOurs g w
  own_ours p (Int z) k = tt
  own_ours p (Mem z) k = tt
  own_ours p (Seal z) k = tt
  own_ours p (Sealed n x) k = absurd k

  -- what an import puts at its slots
  slot_by : (first second : Bool) (x y : Option Exported) → SameImported names x y
      → ((z : Exported) → x ≡ Some z → z.part.trusted ≡ false → IsOpenSeal g z.part.component.closure)
      → Pair (if first then option_map code_half x else (if second then option_map data_half x else None))
      (if first then option_map code_half y else (if second then option_map data_half y else None))
  slot_by true second None None s k = tt
  slot_by false true None None s k = tt
  slot_by false false None None s k = tt
  slot_by false false None (Some y) s k = tt
  slot_by false false (Some x) None s k = tt
  slot_by first second None (Some y) s k = absurd s
  slot_by first second (Some x) None s k = absurd s
  slot_by false false (Some x) (Some y) s k = tt
  slot_by true second (Some x) (Some y) (inl e) k =
      subst (λ z. W (code_half x) (code_half z)) e.0 (ours (code_half x) (k x refl e.1))
  slot_by true second (Some x) (Some y) (inr t) k = code_halves x y t
  slot_by false true (Some x) (Some y) (inl e) k =
      subst (λ z. W (data_half x) (data_half z)) e.0 (ours (data_half x) (k x refl e.1))
  slot_by false true (Some x) (Some y) (inr t) k = data_halves x y t

  closure_open : (p : PartSeen) → IsUntrusted g p → IsOpenSeal g p.component.closure
  closure_open p u = (p, u, rw (eq-eqb p.component.closure p.component.closure refl) refl)

  module _ (beside : AreBeside g h) (imports : ImportTheSame names) (a : ℕ) (free : IsFreeAt g a)
      (free' : IsFreeAt h a) where
    import_open : (i : Import) (z : Exported) → imported g.parts i ≡ Some z → z.part.trusted ≡ false
        → IsOpenSeal g z.part.component.closure
    import_open i z e t =
        let k = imported_there g.parts i z e in closure_open z.part (listed_at g.parts k.index z.part k.at, t)

    one_pair : (p : PartSeen) → IsUntrusted g p → Pair (part_word g.parts a p) (part_word h.parts a p)
    unfolding part_word
    one_pair p u =
        or_pair _ _ _ _
        (from_pair p.component.code_base a (slice_get p.component.code) (slice_get p.component.code)
        (λ o. own_pair (slice_get p.component.code o)
        (λ w e. own_ours p w (own_code p (lg.parts p u.0) o w e))))
        (from_pair p.component.data_base a (data_word g.parts p.component) (data_word h.parts p.component)
        (λ o. or_pair _ _ _ _
        (given_pair (slot_word g.parts o) (slot_word h.parts o) p.component.imports
        (λ i m. slot_by (i.slot == o) (i.slot + 1 == o) (imported g.parts i) (imported h.parts i)
        (imports p i u m) (import_open i)))
        (own_pair (slice_get p.component.data_words o)
        (λ w e. own_ours p w (own_data p (lg.parts p u.0) o w e)))))

    -- the part of a word that is there
    untrusted_of : (k : Link) (linked : IsLink k) → IsFreeAt k a → (p : PartSeen) (w : Word)
        → Contains k.parts p → part_word k.parts a p ≡ Some w → IsUntrusted k p
    untrusted_of k linked f p w m e = (m, by p.trusted refl)
      where
        by : (b : Bool) → p.trusted ≡ b → p.trusted ≡ false
        by false t = t
        by true t = absurd (let bad : None ≡ Some w = sym (part_none k linked k.parts a p (m, t) f) ∙ e in cc)

    module _ (one_g : OneAt g.parts) (one_h : OneAt h.parts) where
      alone : (k : Link) → OneAt k.parts → (p : PartSeen) (w : Word) → Contains k.parts p
          → part_word k.parts a p ≡ Some w → first_given (part_word k.parts a) k.parts ≡ Some w
      alone k one p w m e = given_alone (part_word k.parts a) k.parts p w m e
          (λ q v n f. one a q p v w n m f e)

      words_pair : (x y : Option Word) → first_given (part_word g.parts a) g.parts ≡ x
          → first_given (part_word h.parts a) h.parts ≡ y → Pair x y
      words_pair None None e f = tt
      words_pair (Some w) y e f =
          let k = given (part_word g.parts a) g.parts w e in
          let u = untrusted_of g lg free k.item w (listed_at g.parts k.index k.item k.at) k.is in
          let p = subst (λ z. Pair z (part_word h.parts a k.item)) k.is (one_pair k.item u) in
          by k.item ((beside k.item).0 u) (part_word h.parts a k.item) refl p
        where
          by : (p : PartSeen) → IsUntrusted h p → (o : Option Word) → part_word h.parts a p ≡ o
              → Pair (Some w) o → Pair (Some w) y
          by p u None i q = absurd q
          by p u (Some v) i q = subst (Pair (Some w)) (sym (alone h one_h p v u.0 i) ∙ f) q
      words_pair None (Some v) e f =
          let k = given (part_word h.parts a) h.parts v f in
          let u = untrusted_of h lh free' k.item v (listed_at h.parts k.index k.item k.at) k.is in
          let t = (beside k.item).1 u in
          by k.item t (part_word g.parts a k.item) refl
          (subst (Pair (part_word g.parts a k.item)) k.is (one_pair k.item t))
        where
          by : (p : PartSeen) → IsUntrusted g p → (o : Option Word) → part_word g.parts a p ≡ o
              → Pair o (Some v) → ⊥
          by p t None i q = q
          by p t (Some w) i q = (let bad : Some w ≡ None = sym (alone g one_g p w t.0 i) ∙ e in cc)

      cells_pair : CellPair (SameWord g h names []) (IsFreeAt g)
          (option_map Plain (start_cell g.parts g.size a))
          (option_map Plain (start_cell h.parts h.size a))
      unfolding start_cell
      cells_pair =
          by _ _ (in_regions a (regions_of g.parts g.size)) (in_regions a (regions_of h.parts h.size))
          (words_pair _ _ refl refl)
        where
          by : (x y : Option Word) (b c : Bool) → Pair x y
              → CellPair (SameWord g h names []) (IsFreeAt g)
              (option_map Plain (option_or x (if b then Some (Int (pos 0)) else None)))
              (option_map Plain (option_or y (if c then Some (Int (pos 0)) else None)))
          by None None true true p = ours (Int (pos 0)) tt
          by None None true false p = tt
          by None None false c p = tt
          by None (Some v) b c p = absurd p
          by (Some w) None b c p = absurd p
          by (Some w) (Some v) b c p = p

-- a cell of the overlay's first state
first_cell : (a : LinkedStart) (n : ℕ)
    → cell (first_state a.link).maps.cells n ≡ option_map Plain (start_cell (placed a.parts a.size) a.size n)
first_cell a n =
    let parts = placed a.parts a.size in
    (is_overlay parts a.size a.start a.is_start).cells n ∙ start_word_is parts a.size a.start a.is_start n
    ∙ ap (option_map Plain) (a.is_start.starts.state.cells n)

module _ (begin : StartsBegin) (a b : LinkedStart) (names : NamesOf a.link b.link)
    (beside : AreBeside (overlay_link a.link) (overlay_link b.link)) (imports : ImportTheSame names) where
  abbrev G : Link
  G = overlay_link a.link

  abbrev H : Link
  H = overlay_link b.link

  one_held : HoldsFor G.parts a.size (overlay_at a.start) a.start.state.maps
  one_held = held_at begin a

  other_held : HoldsFor H.parts b.size (overlay_at b.start) b.start.state.maps
  other_held = held_at begin b

  pub start_cells_alike : (n : ℕ) → IsFreeAt G n → CellPair (SameWord G H names []) (IsFreeAt G)
      (cell (first_state a.link).maps.cells n) (cell (first_state b.link).maps.cells n)
  start_cells_alike n free = by _ _ refl refl
    where
      by : (x y : Option OWord) → cell (first_state a.link).maps.cells n ≡ x
          → cell (first_state b.link).maps.cells n ≡ y
          → CellPair (SameWord G H names []) (IsFreeAt G)
          (cell (first_state a.link).maps.cells n) (cell (first_state b.link).maps.cells n)
      by None y e f = rw e tt
      by (Some w) None e f = rw (e, f) tt
      by (Some w) (Some v) e f =
          let free' : IsFreeAt H n = names.free n
          (in_region_of G (first_state a.link) a.start.state.maps one_held.holds n w e)
          (in_region_of H (first_state b.link) b.start.state.maps other_held.holds n v f) free in
          let one = first_cell a n in
          let two = first_cell b n in
          rw (one, two) (cells_pair G H names one_held.linked other_held.linked beside imports n free free'
          (one_at G.parts a.size a.is_start.rules one_held.linked.parts)
          (one_at H.parts b.size b.is_start.rules other_held.linked.parts))

pub placed_alike : StartsBegin → PlacedStartsAlike
placed_alike begin a b beside names imports main =
    starts_alike a b beside.one_size names main
    (start_cells_alike begin a b names beside.same_parts imports)
