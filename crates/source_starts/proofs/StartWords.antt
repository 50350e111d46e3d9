-- What the overlay of a linked start of sources has in its cells.
use Rattle.std.proofs.Common.{◌≡◌, ◌⊎◌, inl, inr, ℕ, ◌+◌, ◌-◌, ◌<◌, pos, Bool, true, false, List, length}
use Rattle.std.proofs.Common.{Option, Some, None, refl, sym, ap, ◌∙◌, subst, arith, eq-eqb}
use Rattle.std.specs.Prelude.{slice_get, option_map, unwrap_or, is_some, ◌==◌, ◌&&◌, if◌then◌else◌}
use Rattle.std.specs.List.{Contains}
use Rattle.std.proofs.lemmas.Option.{slice_get_within}
use Rattle.cap_words.specs.declared.Word.{Word}
use Rattle.cap_words.specs.declared.Word.TheVariants.{Int, Mem, Seal, Sealed}
use Rattle.component_file.specs.declared.component.Import.{Import}
use Rattle.lcm_machine.specs.Cells.{cell}
use Rattle.call_sequence.specs.Holds.{code_at}
use Rattle.linked_starts.specs.Parts.{PartSeen, IsPart}
use Rattle.linked_starts.specs.Regions.{regions_of, in_regions}
use Rattle.linked_starts.specs.Start.{Exported, imported, code_half, data_half, code_of, data_of}
use Rattle.linked_starts.specs.Start.{slot_word, part_word, start_cell, first_given, from, data_word}
use Rattle.linked_starts.specs.Started.{StartSeen}
use Rattle.linked_starts.specs.DataWords.{DataInCells}
use Rattle.linked_starts.proofs.Offers.{in_regions_is, data_stands, given, given_by, OwnWord, own_code}
use Rattle.linked_starts.proofs.Offers.{own_data, from_inv, slot_inv, slots_in, IsExport, imported_there}
use Rattle.linked_starts.specs.LinkedStarts.{IsLinkedStart}
use Rattle.linked_starts.specs.Standing.{placed}
use Rattle.overlay_machine.specs.declared.words.OWord.{OWord}
use Rattle.overlay_machine.specs.declared.words.OWord.TheVariants.{Plain}
use Rattle.overlay_machine.specs.Link.{Link, IsTrusted, IsUntrusted, ranges_of, regions, data_region}
use Rattle.overlay_machine.specs.Linked.{IsLink}
use Rattle.overlay_machine.specs.Safe.{IsOpenSeal}
use Rattle.overlay_machine.specs.Keeping.{link_of, HoldsFor}
use Rattle.overlay_machine.specs.Starting.{overlay_at, StartsBegin}
use Rattle.overlay_machine.specs.Invariant.{Invariant}
use Rattle.overlay_machine.proofs.Offers.{listed_at, start_word_is, is_overlay}
use Rattle.template_runs.specs.Public.{IsSharedAt, IsPublicWord, IsPublic, IsFreeAt, KeepsPrivate}
use Rattle.source_starts.specs.Sources.{LinkedStart}
use Rattle.source_starts.proofs.Worlds.{NamesApart, names_apart}
use Rattle.source_starts.proofs.Linking.{may_import, same_part}

-- ---- halves

-- what stands at a slot is one of two halves
slot_half : (x : Option Exported) (first second : Bool) (w : Word)
    → (if first then option_map code_half x else (if second then option_map data_half x else None)) ≡ Some w
    → (y : Exported) × (x ≡ Some y) × ((code_half y ≡ w) ⊎ (data_half y ≡ w))
slot_half None true second w h = absurd (let z : None ≡ Some w = h in cc)
slot_half None false true w h = absurd (let z : None ≡ Some w = h in cc)
slot_half None false false w h = absurd (let z : None ≡ Some w = h in cc)
slot_half (Some y) true second w h = (y, refl, inl (let s : code_half y ≡ w = cc in s))
slot_half (Some y) false true w h = (y, refl, inr (let s : data_half y ≡ w = cc in s))
slot_half (Some y) false false w h = absurd (let z : None ≡ Some w = h in cc)

two_marks : (b : Bool) → b ≡ true → b ≡ false → ⊥
two_marks b t f = let bad : true ≡ false = sym t ∙ f in cc

-- ---- which words are public, whatever the link

module _ (g : Link) (linked : IsLink g) where
  -- a word of a part's own is under no seal
  own_public : (p : PartSeen) (w : Word) → OwnWord p.component w → IsPublicWord g w
  own_public p (Int z) h q k iq e = cc
  own_public p (Mem c) h q k iq e = cc
  own_public p (Seal c) h q k iq e = cc
  own_public p (Sealed n x) h q k iq e = absurd h

  open_closure : (p : PartSeen) → IsUntrusted g p → IsOpenSeal g p.component.closure
  open_closure p u = let t = eq-eqb p.component.closure p.component.closure refl in (p, u, rw t refl)

  -- a half of what an untrusted part imports
  code_is_public : (parts : List PartSeen) (x : Exported) → IsExport parts x
      → (x.part.trusted ≡ true → IsTrusted g x.part) → (x.part.trusted ≡ false → IsUntrusted g x.part)
      → (x.part.trusted ≡ true → x.export.shared ≡ true) → IsPublicWord g (code_half x)
  code_is_public parts x there trusted untrusted shared q k iq e = by x.part.trusted refl
    where
      seals : x.part.component.closure ≡ q.component.closure
      seals = cc

      caps : code_of x ≡ code_at (ranges_of q) k
      caps = cc

      by : (b : Bool) → x.part.trusted ≡ b → IsSharedAt q.component k
      by true t =
          let same : x.part ≡ q = linked.one_closure x.part q (trusted t) iq seals in
          let base : x.part.component.code_base ≡ q.component.code_base =
          ap (λ (p : PartSeen). p.component.code_base) same in
          let at : pos (x.part.component.code_base + x.export.offset) ≡ pos (q.component.code_base + k) =
          ap (λ c. c.addr) caps in
          let at' : x.part.component.code_base + x.export.offset ≡ q.component.code_base + k = cc in
          record {
            export = x.export;
            among = subst (λ (p : PartSeen). Contains p.component.exports x.export) same there.listed;
            shared = shared t;
            offset = omega (arith, base, at');
          }
      by false t =
          absurd (linked.closure_closed q iq (subst (IsOpenSeal g) seals (open_closure x.part (untrusted t))))

  data_is_public : (x : Exported) → IsPublicWord g (data_half x)
  data_is_public x q k iq e =
      let c : data_of x.part ≡ code_at (ranges_of q) k = cc in
      let bad = ap (λ c. c.perm) c in cc

module _ (parts : List PartSeen) (size : ℕ) (s : StartSeen) (is : IsLinkedStart parts size s) where
  abbrev pub the_link : Link
  the_link = link_of parts size (overlay_at s)

  -- the overlay has the start's cells
  pub cell_plain : (a : ℕ)
      → cell (overlay_at s).state.maps.cells a ≡ option_map Plain (cell s.state.maps.cells a)
  cell_plain a = (is_overlay parts size s is).cells a ∙ start_word_is parts size s is a

  pub cell_start : (a : ℕ) (w : Word) → cell s.state.maps.cells a ≡ Some w
      → cell (overlay_at s).state.maps.cells a ≡ Some (Plain w)
  cell_start a w e = cell_plain a ∙ ap (option_map Plain) e

  pub data_in : (n : ℕ) (p : PartSeen) → slice_get parts n ≡ Some p
      → DataInCells parts s.state.maps p.component
  data_in n p at = data_stands parts size s.state is.accepted is.rules is.starts.state n p at

  pub apart : NamesApart parts
  apart = names_apart parts size is.rules

  -- the words of the start's cells
  abbrev pub first_words : ℕ → OWord
  first_words a = unwrap_or (cell (overlay_at s).state.maps.cells a) (Plain (Int (pos 0)))

  module _ (linked : IsLink the_link) (holds : Invariant the_link (overlay_at s).state s.state.maps) where
    pub data_there : (p : PartSeen) (d : ℕ) → IsTrusted the_link p → d < length p.component.data_words
        → cell (overlay_at s).state.maps.cells (p.component.data_base + d) ≡ Some
        (first_words (p.component.data_base + d))
    data_there p d ip lt =
        by (cell (overlay_at s).state.maps.cells (p.component.data_base + d)) refl
        (holds.there (p.component.data_base + d)
        ∙ ap (λ b. b && true) (in_regions_is (p.component.data_base + d) (regions the_link) (data_region p)
        (linked.data_there p ip) (omega arith) (omega (arith, lt))))
      where
        by : (o : Option OWord) → cell (overlay_at s).state.maps.cells (p.component.data_base + d) ≡ o
            → is_some (cell (overlay_at s).state.maps.cells (p.component.data_base + d)) ≡ true
            → cell (overlay_at s).state.maps.cells (p.component.data_base + d) ≡ Some
            (first_words (p.component.data_base + d))
        by None e t = absurd (let bad : false ≡ true = ap is_some (sym e) ∙ t in cc)
        by (Some w) e t = e ∙ ap (λ o. Some (unwrap_or o (Plain (Int (pos 0))))) (sym e)

    within_data : (p : PartSeen) → IsPart p → (o : ℕ) (w : Word) → data_word parts p.component o ≡ Some w
        → o < length p.component.data_words
    within_data p each o w h =
        elim (given_by (first_given (slot_word parts o) p.component.imports)
        (slice_get p.component.data_words o) w h)
        as (λ _. o < length p.component.data_words) [
          | inl f ↦ (
              let g = given (slot_word parts o) p.component.imports w f in
              let l = slots_in p each g.index g.item g.at in
              elim (slot_inv parts o g.item w g.is) as (λ _. o < length p.component.data_words) [
                | inl e ↦ omega (arith, l, e)
                | inr e ↦ omega (arith, l, e)
              ])
          | inr d ↦ slice_get_within p.component.data_words o w d
        ]

    -- a half of what an untrusted part imports
    pub code_public : (x : Exported) → IsExport parts x
        → (x.part.trusted ≡ true → x.export.shared ≡ true) → IsPublicWord the_link (code_half x)
    code_public x there shared =
        let listed = listed_at parts there.index x.part there.at in
        code_is_public the_link linked parts x there (λ t. (listed, t)) (λ t. (listed, t)) shared

    pub data_public : (x : Exported) → IsPublicWord the_link (data_half x)
    data_public = data_is_public the_link linked

    slot_public : (n j : ℕ) (p : PartSeen) (i : Import) (x : Option Exported) (first second : Bool) (w : Word)
        → slice_get parts n ≡ Some p → p.trusted ≡ false → slice_get p.component.imports j ≡ Some i
        → imported parts i ≡ x
        → (if first then option_map code_half x else (if second then option_map data_half x else None)) ≡ Some
        w
        → IsPublicWord the_link w
    slot_public n j p i x first second w at u here e h =
        let f = slot_half x first second w h in
        let is_here = e ∙ f.1 in
        elim f.2 as (λ _. IsPublicWord the_link w) [
          | inl s ↦ subst (IsPublicWord the_link) s
              (code_public f.0 (imported_there parts i f.0 is_here) (shared f.0 is_here))
          | inr s ↦ subst (IsPublicWord the_link) s (data_public f.0)
        ]
      where
        shared : (y : Exported) → imported parts i ≡ Some y → y.part.trusted ≡ true → y.export.shared ≡ true
        shared y e t = elim (may_import parts size is.rules n j p i y at here e)
            as (λ _. y.export.shared ≡ true) [
              | inl k ↦ k
              | inr k ↦ (
                  let z = imported_there parts i y e in
                  let same = same_part parts apart z.index n y.part p z.at at k in
                  absurd (two_marks y.part.trusted t (ap (λ (q : PartSeen). q.trusted) same ∙ u)))
            ]

    -- each word but those of trusted code and data
    word_public : (a : ℕ) (w : Word) → IsFreeAt the_link a → start_cell parts size a ≡ Some w
        → IsPublicWord the_link w
    unfolding start_cell part_word
    word_public a w free e =
        elim (given_by (first_given (part_word parts a) parts)
        (if in_regions a (regions_of parts size) then Some (Int (pos 0)) else None) w e)
        as (λ _. IsPublicWord the_link w) [
          | inl f ↦ (let g = given (part_word parts a) parts w f in by_part g.index g.item g.at g.is)
          | inr z ↦ by_zero (in_regions a (regions_of parts size)) z
        ]
      where
        by_zero : (b : Bool) → (if b then Some (Int (pos 0)) else None) ≡ Some w → IsPublicWord the_link w
        by_zero true h = let s : Int (pos 0) ≡ w = cc in subst (IsPublicWord the_link) s (λ q k iq e. cc)
        by_zero false h = absurd (let z : None ≡ Some w = h in cc)

        by_code : (n : ℕ) (p : PartSeen) (b : Bool) → p.trusted ≡ b → slice_get parts n ≡ Some p
            → from p.component.code_base (slice_get p.component.code) a ≡ Some w → IsPublicWord the_link w
        by_code n p true t at h =
            let f = from_inv p.component.code_base (slice_get p.component.code) a w h in
            let low = f.0 in
            let lt = slice_get_within p.component.code (a - p.component.code_base) w f.1 in
            elim (free.0 p (listed_at parts n p at, t)) as (λ _. IsPublicWord the_link w) [
              | inl u ↦ absurd (omega (arith, u, low))
              | inr u ↦ absurd (omega (arith, u, lt, low))
            ]
        by_code n p false t at h =
            let f = from_inv p.component.code_base (slice_get p.component.code) a w h in
            own_public the_link linked p w (own_code p (is.accepted n p at) (a - p.component.code_base) w f.1)

        by_data : (n : ℕ) (p : PartSeen) (b : Bool) → p.trusted ≡ b → slice_get parts n ≡ Some p
            → from p.component.data_base (data_word parts p.component) a ≡ Some w → IsPublicWord the_link w
        by_data n p true t at h =
            let f = from_inv p.component.data_base (data_word parts p.component) a w h in
            let low = f.0 in
            let lt = within_data p (is.accepted n p at) (a - p.component.data_base) w f.1 in
            elim (free.1 p (listed_at parts n p at, t)) as (λ _. IsPublicWord the_link w) [
              | inl u ↦ absurd (omega (arith, u, low))
              | inr u ↦ absurd (omega (arith, u, lt, low))
            ]
        by_data n p false t at h =
            let f = from_inv p.component.data_base (data_word parts p.component) a w h in
            let o = a - p.component.data_base in
            elim (given_by (first_given (slot_word parts o) p.component.imports)
            (slice_get p.component.data_words o) w f.1)
            as (λ _. IsPublicWord the_link w) [
              | inl slot ↦ (
                  let g = given (slot_word parts o) p.component.imports w slot in
                  slot_public n g.index p g.item (imported parts g.item) (g.item.slot == o)
                  (g.item.slot + 1 == o) w at t
                  g.at refl g.is)
              | inr own ↦ own_public the_link linked p w (own_data p (is.accepted n p at) o w own)
            ]

        by_part : (n : ℕ) (p : PartSeen) → slice_get parts n ≡ Some p → part_word parts a p ≡ Some w
            → IsPublicWord the_link w
        by_part n p at h =
            elim (given_by (from p.component.code_base (slice_get p.component.code) a)
            (from p.component.data_base (data_word parts p.component) a) w h)
            as (λ _. IsPublicWord the_link w) [
              | inl c ↦ by_code n p p.trusted refl at c
              | inr d ↦ by_data n p p.trusted refl at d
            ]

    -- at the start
    pub starts_private : KeepsPrivate the_link (overlay_at s).state
    starts_private = record { cells = by; frames = tt }
      where
        by_word : (a : ℕ) (w : OWord) (x : Option Word) → IsFreeAt the_link a → start_cell parts size a ≡ x
            → option_map Plain x ≡ Some w → IsPublic the_link w
        by_word a w None free e h = absurd (let z : None ≡ Some w = h in cc)
        by_word a w (Some v) free e h =
            let q : Plain v ≡ w = cc in subst (IsPublic the_link) q (word_public a v free e)

        by : (a : ℕ) (w : OWord) → IsFreeAt the_link a → cell (overlay_at s).state.maps.cells a ≡ Some w
            → IsPublic the_link w
        by a w free e =
            by_word a w (start_cell parts size a) free refl
            (ap (option_map Plain) (sym (is.starts.state.cells a)) ∙ sym (cell_plain a) ∙ e)

-- ---- of a link with its start

-- what the overlay begins with
pub held_at : StartsBegin → (a : LinkedStart)
    → HoldsFor (placed a.parts a.size) a.size (overlay_at a.start) a.start.state.maps
held_at begin a =
    let parts = placed a.parts a.size in
    begin a.start (overlay_at a.start) (is_overlay parts a.size a.start a.is_start) parts a.size a.is_start
