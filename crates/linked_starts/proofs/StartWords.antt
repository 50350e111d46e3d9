-- What each cell of a start holds: a word of a part's code or data, a half of an export, or 0.
use Rattle.std.proofs.Common.{◌≡◌, ◌⊎◌, ℕ, ◌+◌, ◌-◌, Bool, true, false, List, Option, Some, None, refl, sym}
use Rattle.std.proofs.Common.{ap, subst, ◌∙◌, arith, inl, inr, pos}
use Rattle.std.specs.Prelude.{slice_get, find, option_map, option_and_then, ◌==◌, if◌then◌else◌}
use Rattle.std.specs.List.{Contains, position_or_len}
use Rattle.std.proofs.lemmas.Option.{slice_get_within, get_or_from_slice_get}
use Rattle.cap_words.specs.declared.Word.{Word}
use Rattle.cap_words.specs.declared.Word.TheVariants.{Int}
use Rattle.component_file.specs.declared.component.Import.{Import}
use Rattle.component_file.specs.declared.component.Export.{Export}
use Rattle.linked_starts.specs.Parts.{PartSeen}
use Rattle.linked_starts.specs.Regions.{regions_of, in_regions}
use Rattle.linked_starts.specs.Start.{first_given, Exported, export_that, part_named, same_name, imported}
use Rattle.linked_starts.specs.Start.{is_main, main_of, code_half, data_half, slot_word, data_word, from}
use Rattle.linked_starts.specs.Start.{part_word, start_cell}
use Rattle.linked_starts.proofs.Found.{given, found, map_inv, given_by}
use Rattle.linked_starts.proofs.PartWords.{from_inv}

-- ---- exports that are there

-- an export of one of the parts
pub record IsExport (parts : List PartSeen) (x : Exported) : Type 0 where
  pub index : ℕ
  pub at : slice_get parts index ≡ Some x.part
  pub listed : Contains x.part.component.exports x.export

pub listed_at : {A : Type 0} (xs : List A) (k : ℕ) (x : A) → slice_get xs k ≡ Some x → Contains xs x
listed_at xs k x e = (k, slice_get_within xs k x e, get_or_from_slice_get xs k x x e)

export_listed : (test : Export → Bool) (p : PartSeen) (x : Exported) → export_that test p ≡ Some x
    → (p ≡ x.part) × Contains p.component.exports x.export
export_listed test p x h =
    let m = map_inv (λ e. record { part = p; export = e }) (find test p.component.exports) x h in
    let is : m.0 ≡ x.export = ap (λ (y : Exported). y.export) m.2 in
    let there = found test p.component.exports m.0 m.1 in (
      ap (λ (y : Exported). y.part) m.2,
      subst (Contains p.component.exports)
          is (listed_at p.component.exports (position_or_len test p.component.exports) m.0 there),
    )

is_export : (parts : List PartSeen) (k : ℕ) (test : Export → Bool) (p : PartSeen) (x : Exported)
    → slice_get parts k ≡ Some p → export_that test p ≡ Some x → IsExport parts x
is_export parts k test p x at h =
    let l = export_listed test p x h in
    record {
      index = k;
      at = at ∙ ap Some l.0;
      listed =
          subst (λ q. Contains q.component.exports x.export) l.0 l.1;
    }

then_export : (test : Export → Bool) (o : Option PartSeen) (x : Exported)
    → option_and_then (export_that test) o ≡ Some x
    → (p : PartSeen) × (o ≡ Some p) × (export_that test p ≡ Some x)
then_export test None x h = absurd cc
then_export test (Some p) x h = (p, refl, h)

pub imported_there : (parts : List PartSeen) (i : Import) (x : Exported) → imported parts i ≡ Some x
    → IsExport parts x
imported_there parts i x h =
    let named : PartSeen → Bool = λ p. same_name p.component.name i.part in
    let m = then_export (λ e. same_name e.name i.name) (part_named parts i.part) x h in
    is_export parts (position_or_len named parts) (λ e. same_name e.name i.name)
    m.0 x (found named parts m.0 m.1) m.2

pub main_is_there : (parts : List PartSeen) (x : Exported) → main_of parts ≡ Some x → IsExport parts x
main_is_there parts x h = let g =
    given (export_that is_main) parts x h in is_export parts g.index is_main g.item x g.at g.is

-- ---- cells

pub data CellIs (parts : List PartSeen) (a : ℕ) (w : Word) : Type 0 where
  of_code : (k o : ℕ) (p : PartSeen) → slice_get parts k ≡ Some p → slice_get p.component.code o ≡ Some w
      → a ≡ p.component.code_base + o → CellIs parts a w
  of_data : (k o : ℕ) (p : PartSeen) → slice_get parts k ≡ Some p
      → slice_get p.component.data_words o ≡ Some w → a ≡ p.component.data_base + o → CellIs parts a w
  of_slot : (x : Exported) → IsExport parts x → (w ≡ code_half x) ⊎ (w ≡ data_half x) → CellIs parts a w
  of_none : w ≡ Int (pos 0) → CellIs parts a w

slot_is : (parts : List PartSeen) (a : ℕ) (i : Import) (x : Option Exported) (first second : Bool) (w : Word)
    → imported parts i ≡ x
    → (if first then option_map code_half x else (if second then option_map data_half x else None)) ≡ Some w
    → CellIs parts a w
slot_is parts a i None true second w is h = absurd cc
slot_is parts a i None false true w is h = absurd cc
slot_is parts a i None false false w is h = absurd cc
slot_is parts a i (Some x) true second w is h = let e : code_half x ≡ w =
    cc in of_slot x (imported_there parts i x is) (inl (sym e))
slot_is parts a i (Some x) false true w is h = let e : data_half x ≡ w =
    cc in of_slot x (imported_there parts i x is) (inr (sym e))
slot_is parts a i (Some x) false false w is h = absurd cc

word_is : (parts : List PartSeen) (k a : ℕ) (p : PartSeen) (w : Word) → slice_get parts k ≡ Some p
    → part_word parts a p ≡ Some w → CellIs parts a w
unfolding part_word
word_is parts k a p w at h =
    elim (given_by (from p.component.code_base (slice_get p.component.code) a)
    (from p.component.data_base (data_word parts p.component) a) w h) as (λ _. CellIs parts a w) [
      | inl code ↦ (
          let f = from_inv p.component.code_base (slice_get p.component.code) a w code in
          let low = f.0 in
          of_code k (a - p.component.code_base) p at f.1 (omega (arith, low))
          )
      | inr words ↦ (
          let f = from_inv p.component.data_base (data_word parts p.component) a w words in
          let low = f.0 in
          let o = a - p.component.data_base in
          elim (given_by (first_given (slot_word parts o) p.component.imports)
          (slice_get p.component.data_words o) w f.1) as (λ _. CellIs parts a w) [
            | inl slot ↦
                (let g = given (slot_word parts o) p.component.imports w slot in
                slot_is parts a g.item (imported parts g.item) (g.item.slot == o) (g.item.slot + 1 == o)
                w refl g.is)
            | inr own ↦ of_data k o p at own (omega (arith, low))
          ]
          )
    ]

none_is : (b : Bool) (w : Word) → (if b then Some (Int (pos 0)) else None) ≡ Some w → w ≡ Int (pos 0)
none_is true w h = let e : Int (pos 0) ≡ w = cc in sym e
none_is false w h = absurd cc

pub cell_is : (parts : List PartSeen) (size a : ℕ) (w : Word) → start_cell parts size a ≡ Some w
    → CellIs parts a w
unfolding start_cell
cell_is parts size a w h =
    elim (given_by (first_given (part_word parts a) parts)
    (if in_regions a (regions_of parts size) then Some (Int (pos 0)) else None) w h)
    as (λ _. CellIs parts a w) [
      | inl found' ↦
          (let g = given (part_word parts a) parts w found' in word_is parts g.index a g.item w g.at g.is)
      | inr z ↦ of_none (none_is (in_regions a (regions_of parts size)) w z)
    ]
