-- The operands of items keep the limits.
use Rattle.std.proofs.Common.{◌≡◌, ℕ, ◌<◌, ◌≤◌, zero, suc, Bool, true, false, cond, List, [], ◌∷◌, ◌++◌}
use Rattle.std.proofs.Common.{length, Option, Some, None, refl, sym, ap, ◌∙◌, subst, arith}
use Rattle.std.specs.Prelude.{IsTrue, IfSome, nat_lt, ◌==◌, unwrap_or}
use Rattle.std.proofs.lemmas.Bool.Decides.{nat_tests}
use Rattle.std.proofs.lemmas.List.{length_push}
use Rattle.cap_words.specs.declared.TheConstants.{LAST_PLACE, LONGEST_STRETCH}
use Rattle.component_file.specs.declared.TheConstants.{LAST_OFFSET, MOST_IMPORTS, MOST_EXPORTS, MOST_SITES}
use Rattle.component_file.specs.declared.TheConstants.{MOST_ROWS}
use Rattle.component_file.specs.declared.component.Area.{Area}
use Rattle.component_file.specs.declared.component.Kind.{Kind}
use Rattle.component_file.specs.declared.component.Kind.TheVariants as kind
use Rattle.component_file.specs.declared.component.Import.{Import}
use Rattle.component_file.specs.declared.component.Export.{Export}
use Rattle.component_file.specs.declared.component.KindRow.{KindRow}
use Rattle.cap_words.specs.Names.{is_name}
use Rattle.component_file.specs.Limits.{Each, ImportFits, ExportFits, SiteFits, KindRowFits, KindFits}
use Rattle.component_file.specs.Limits.{StretchFits}
use Rattle.assembler.specs.declared.labels.Section.{Section}
use Rattle.assembler.specs.declared.labels.Section.TheVariants.{Code, Data}
use Rattle.assembler.specs.declared.labels.Label.{Label as LabelOf}
use Rattle.assembler.specs.Labels.{label_of, is_in, offset_in as label_offset}
use Rattle.assembler.specs.References.{Reference, AreReady}
use Rattle.assembler.proofs.LabelTables.{within}
use Rattle.asm_fields.specs.declared.fault.AsmFault.TheVariants as fault
use Rattle.asm_fields.specs.Fields.{place, place_of, name_or, meant, proper_name_from, proper_name_at}
use Rattle.asm_fields.specs.Names.{kind_named}
use Rattle.asm_fields.specs.Operands.{address_at, stretch_at, Offset, Number, Label, offset_at, shared_at}
use Rattle.asm_fields.specs.Operands.{KindField, Plain, Pc, kind_behind, kind_at}
use Rattle.assembler.specs.Tables.{Tables, first_out_of_order, with_import, with_export, with_site, with_row}
use Rattle.assembler.specs.Draft.{Draft}
use Rattle.assembler.specs.Operands.{offset_found, offset_operand, kind_found, kind_in, kinds_in, import_in}
use Rattle.assembler.specs.Operands.{export_in, site_in, fail_in, literal_in, row_in}
use Rattle.assembler.proofs.Gets.{Gets, Any, gets_any, gets_then, gets_done, gets_holds, gets_if}
use Rattle.assembler.proofs.Gets.{gets_looking, natural_within}
use Rattle.assembler.proofs.Chains.{one_behind, each_free}
use Rattle.assembler.proofs.Kept.{TablesKept, IsDraft, ready_table}

-- ---- names and stretches

name_from_is : (at : ℕ) → Gets (λ n. IsTrue (is_name n)) (proper_name_from at)
unfolding proper_name_from
name_from_is at =
    let P : List ℕ → Type 0 = λ n. IsTrue (is_name n) in
    gets_then Any P _ _ (gets_any (name_or (fault.Operand at))) (λ name _.
    gets_then _ P _ _ (gets_holds (is_name name) (fault.Operand at)) (λ _ h.
    gets_done P name h))

pub name_is : Gets (λ n. IsTrue (is_name n)) proper_name_at
name_is = record { gets = λ i x j h. (name_from_is (place_of i)).gets i x j h }

pub address_is : Gets (λ n. n ≤ LAST_PLACE) address_at
address_is = record { gets = λ i x j h. ((natural_within 0 LAST_PLACE).gets i x j h).1 }

by_zero : (b : Bool) (base count : ℕ) → (count == 0) ≡ b → base ≤ LAST_PLACE → 1 ≤ count
    → base ≤ cond b 0 LAST_PLACE
by_zero true base count is in_space some = absurd (grind (arith, nat_tests, is, some))
by_zero false base count is in_space some = in_space

some_fit : (base count : ℕ) → base ≤ LAST_PLACE → 1 ≤ count → count ≤ LONGEST_STRETCH
    → StretchFits base count
some_fit base count in_space some few = (few, by_zero (count == 0) base count refl in_space some)

pub stretch_is : Gets (λ s. StretchFits s.base s.count) stretch_at
unfolding stretch_at
stretch_is =
    let P : Area → Type 0 = λ s. StretchFits s.base s.count in
    gets_then _ P _ _ address_is (λ base in_space.
    gets_then _ P _ _ (natural_within 1 LONGEST_STRETCH) (λ count h.
    gets_done P _ (some_fit base count in_space h.0 h.1)))

-- ---- offsets

abbrev OffsetFits : Offset → Type 0
OffsetFits (Number n) = n ≤ LAST_OFFSET
OffsetFits (Label at name) = Unit {0}

offset_fits : Gets OffsetFits offset_at
unfolding offset_at
offset_fits = gets_looking OffsetFits _ (λ i.
    gets_if OffsetFits _ _ _
    (λ _. gets_then Any OffsetFits _ _ (gets_any place) (λ at _.
    gets_then Any OffsetFits _ _ (gets_any proper_name_at) (λ name _.
    gets_done OffsetFits (Label at name) tt)))
    (λ _. gets_then _ OffsetFits _ _ (natural_within 0 LAST_OFFSET)
    (λ n h. gets_done OffsetFits (Number n) h.1)))

-- the draft has other references, and is as before else
abbrev pub Refers : Draft → Draft → Type 0
Refers d e = (references : List Reference) × (e ≡ record d { references = references })
    × AreReady 0 d.code references

if_in : (b : Bool) (n : ℕ) → n < 65536 → unwrap_or (cond b (Some n) None) 0 ≤ LAST_OFFSET
if_in true n lt = omega (arith, lt)
if_in false n lt = omega arith

label_within : (section : Section) (o : Option LabelOf) → IfSome o (λ l. l.offset < 65536)
    → unwrap_or (label_offset section o) 0 ≤ LAST_OFFSET
label_within section None h = omega arith
label_within section (Some l) h = if_in (is_in section l) l.offset h

found : (section : Section) (o : Offset) (d : Draft) → IsDraft d → OffsetFits o
    → ((offset_found section o d).0 ≤ LAST_OFFSET) × Refers d (offset_found section o d).1
found section (Number n) d k fits = (fits, (d.references, refl, k.words.ready))
found section (Label at name) d k fits =
    let r : Reference = record { word = None; at = at; section = section; name = name } in (
      label_within section (label_of name d.labels) (within name d.labels k.words.labels_within),
      (d.references ++ r ∷ [], refl, ready_table 0 d.code d.references r refl k.words.ready),
    )

abbrev pub OffsetFound : Draft → ℕ × Draft → Type 0
OffsetFound d x = (x.0 ≤ LAST_OFFSET) × Refers d x.1

offset_is : (section : Section) (d : Draft) → IsDraft d → Gets (OffsetFound d) (offset_operand section d)
unfolding offset_operand
offset_is section d k =
    gets_then _ (OffsetFound d) _ _ offset_fits
    (λ o fits. gets_done (OffsetFound d) (offset_found section o d) (found section o d k fits))

with_references : (d : Draft) → IsDraft d → (references : List Reference) → AreReady 0 d.code references
    → IsDraft (record d { references = references })
with_references d k references ready = record {
  words = record {
    labels_within = k.words.labels_within;
    ready = ready;
    code_fits = k.words.code_fits;
    data_fits = k.words.data_fits;
  };
  header = k.header;
  tables = k.tables;
  came = k.came;
}

refers_kept : (d e : Draft) → IsDraft d → Refers d e → IsDraft e
refers_kept d e k r = subst IsDraft (sym r.1) (with_references d k r.0 r.2)

refers_on : (d e f : Draft) → Refers d e → Refers e f → Refers d f
refers_on d e f r s =
    let first = r.1 in (
      s.0,
      s.1 ∙ ap (λ (x : Draft). record x { references = s.0 }) first,
      subst (λ (c : List _). AreReady 0 c s.0) (ap (λ (x : Draft). x.code) first) s.2,
    )

-- ---- kinds

abbrev KindFieldFits : KindField → Type 0
KindFieldFits (Plain k) = KindFits k
KindFieldFits (Pc o) = OffsetFits o

behind_fits : (k : Kind) → Gets KindFieldFits (kind_behind k)
behind_fits (kind.Pc offset) = gets_then _ KindFieldFits _ _ offset_fits
    (λ o fits. gets_done KindFieldFits (Pc o) fits)
behind_fits kind.Any = gets_done KindFieldFits (Plain kind.Any) tt
behind_fits kind.Int = gets_done KindFieldFits (Plain kind.Int) tt
behind_fits kind.DataCap = gets_done KindFieldFits (Plain kind.DataCap) tt
behind_fits kind.Stk = gets_done KindFieldFits (Plain kind.Stk) tt
behind_fits kind.Top = gets_done KindFieldFits (Plain kind.Top) tt

kind_fits : Gets KindFieldFits kind_at
unfolding kind_at
kind_fits = gets_then Any KindFieldFits _ _ (gets_any (meant kind_named)) (λ k _. behind_fits k)

abbrev KindFound : Draft → Kind × Draft → Type 0
KindFound d x = KindFits x.0 × Refers d x.1

kind_found_fits : (k : KindField) (d : Draft) → IsDraft d → KindFieldFits k → KindFound d (kind_found k d)
kind_found_fits (Plain k) d kept fits = (fits, (d.references, refl, kept.words.ready))
kind_found_fits (Pc o) d kept fits = found Code o d kept fits

kind_is : (d : Draft) → IsDraft d → Gets (KindFound d) (kind_in d)
unfolding kind_in
kind_is d k =
    gets_then _ (KindFound d) _ _ kind_fits
    (λ f fits. gets_done (KindFound d) (kind_found f d) (kind_found_fits f d k fits))

abbrev KindsFound : ℕ → Draft → List Kind × Draft → Type 0
KindsFound n d x = ((length x.0 ≡ n) × Each KindFits x.0) × Refers d x.1

kinds_are : (n : ℕ) (d : Draft) → IsDraft d → Gets (KindsFound n d) (kinds_in n d)
unfolding kinds_in
kinds_are zero d k = gets_done (KindsFound 0 d) ([], d) ((refl, tt), (d.references, refl, k.words.ready))
kinds_are (suc n) d k =
    let P = KindsFound (suc n) d in
    gets_then _ P _ _ (kind_is d k) (λ first f.
    gets_then _ P _ _ (kinds_are n first.1 (refers_kept d first.1 k f.1)) (λ others o.
    gets_done P (first.0 ∷ others.0, others.1) (
      (ap suc o.0.0, (f.0, each_free KindFits None (Some first.0) others.0 o.0.1)),
      refers_on d first.1 others.1 f.1 o.1,
    )))

-- ---- tables

none_before : (before : Option ℕ) (b : Bool) (at : ℕ) → first_out_of_order before b at ≡ None
    → (before ≡ None) × (b ≡ true)
none_before (Some p) b at h = absurd cc
none_before None true at h = (refl, refl)
none_before None false at h = absurd cc

import_kept : (at : ℕ) (i : Import) (t : Tables) → TablesKept t
    → nat_lt (length t.imports) MOST_IMPORTS ≡ true
    → IsTrue (is_name i.part) → IsTrue (is_name i.name) → i.slot ≤ LAST_OFFSET
    → TablesKept (with_import at i t)
import_kept at i t k room part name slot = record {
  imports = let n = length_push t.imports i in grind (arith, nat_tests, n, room);
  exports = k.exports;
  sites = k.sites;
  rows = k.rows;
  fail_at = k.fail_at;
  literal_at = k.literal_at;
  ordered = λ none.
      let p = none_before t.out_of_order _ at none in
      let before = k.ordered p.0 in
      (one_behind ImportFits t.imports i before.0 (part, name, slot, p.1), before.1, before.2, before.3);
}

export_kept : (at : ℕ) (e : Export) (t : Tables) → TablesKept t
    → nat_lt (length t.exports) MOST_EXPORTS ≡ true
    → IsTrue (is_name e.name) → e.offset ≤ LAST_OFFSET → TablesKept (with_export at e t)
export_kept at e t k room name offset = record {
  exports = let n = length_push t.exports e in grind (arith, nat_tests, n, room);
  imports = k.imports;
  sites = k.sites;
  rows = k.rows;
  fail_at = k.fail_at;
  literal_at = k.literal_at;
  ordered = λ none.
      let p = none_before t.out_of_order _ at none in
      let before = k.ordered p.0 in
      (before.0, one_behind ExportFits t.exports e before.1 (name, p.1, offset), before.2, before.3);
}

site_kept : (at site : ℕ) (t : Tables) → TablesKept t → nat_lt (length t.sites) MOST_SITES ≡ true
    → site ≤ LAST_OFFSET → TablesKept (with_site at site t)
site_kept at site t k room offset = record {
  sites = let n = length_push t.sites site in grind (arith, nat_tests, n, room);
  imports = k.imports;
  exports = k.exports;
  rows = k.rows;
  fail_at = k.fail_at;
  literal_at = k.literal_at;
  ordered = λ none.
      let p = none_before t.out_of_order _ at none in
      let before = k.ordered p.0 in
      (before.0, before.1, one_behind SiteFits t.sites site before.2 (offset, p.1), before.3);
}

row_kept : (at : ℕ) (r : KindRow) (t : Tables) → TablesKept t → nat_lt (length t.rows) MOST_ROWS ≡ true
    → r.offset ≤ LAST_OFFSET → (length r.kinds ≡ 15) × Each KindFits r.kinds → TablesKept (with_row at r t)
row_kept at r t k room offset kinds = record {
  rows = let n = length_push t.rows r in grind (arith, nat_tests, n, room);
  imports = k.imports;
  exports = k.exports;
  sites = k.sites;
  fail_at = k.fail_at;
  literal_at = k.literal_at;
  ordered = λ none.
      let p = none_before t.out_of_order _ at none in
      let before = k.ordered p.0 in
      (before.0, before.1, before.2, one_behind KindRowFits t.rows r before.3 (offset, p.1, kinds));
}

-- other tables, and other references
other_tables : (d e : Draft) (change : Tables → Tables) → IsDraft d → Refers d e
    → TablesKept (change d.tables) → IsDraft (record e { tables = change e.tables })
other_tables d e change k r tables =
    let kept : IsDraft (record d { references = r.0; tables = change d.tables }) = record {
      words = record {
        labels_within = k.words.labels_within;
        ready = r.2;
        code_fits = k.words.code_fits;
        data_fits = k.words.data_fits;
      };
      header = k.header;
      tables = tables;
      came = k.came;
    } in
    subst (λ (x : Draft). IsDraft (record x { tables = change x.tables })) (sym r.1) kept

pub import_is : (at : ℕ) (d : Draft) → IsDraft d → nat_lt (length d.tables.imports) MOST_IMPORTS ≡ true
    → Gets IsDraft (import_in at d)
unfolding import_in
import_is at d k room =
    gets_then _ IsDraft _ _ name_is (λ part part_is.
    gets_then _ IsDraft _ _ name_is (λ name its_name.
    gets_then _ IsDraft _ _ (offset_is Data d k) (λ slot s.
    gets_done IsDraft _ (
    let i : Import = record { part = part; name = name; slot = slot.0 } in
    other_tables d slot.1 (with_import at i) k s.1
    (import_kept at i d.tables k.tables room part_is its_name s.0)))))

pub export_is : (at : ℕ) (d : Draft) → IsDraft d → nat_lt (length d.tables.exports) MOST_EXPORTS ≡ true
    → Gets IsDraft (export_in at d)
unfolding export_in
export_is at d k room =
    gets_then _ IsDraft _ _ name_is (λ name its_name.
    gets_then _ IsDraft _ _ (offset_is Code d k) (λ offset o.
    gets_then Any IsDraft _ _ (gets_any shared_at) (λ shared _.
    gets_done IsDraft _ (
    let e : Export = record { name = name; offset = offset.0; shared = shared } in
    other_tables d offset.1 (with_export at e) k o.1
    (export_kept at e d.tables k.tables room its_name o.0)))))

pub site_is : (at : ℕ) (d : Draft) → IsDraft d → nat_lt (length d.tables.sites) MOST_SITES ≡ true
    → Gets IsDraft (site_in at d)
unfolding site_in
site_is at d k room =
    gets_then _ IsDraft _ _ (offset_is Code d k) (λ site s.
    gets_done IsDraft _
    (other_tables d site.1 (with_site at site.0) k s.1
    (site_kept at site.0 d.tables k.tables room s.0)))

pub row_is : (at : ℕ) (d : Draft) → IsDraft d → nat_lt (length d.tables.rows) MOST_ROWS ≡ true
    → Gets IsDraft (row_in at d)
unfolding row_in
row_is at d k room =
    gets_then _ IsDraft _ _ (offset_is Code d k) (λ offset o.
    gets_then _ IsDraft _ _ (kinds_are 15 offset.1 (refers_kept d offset.1 k o.1)) (λ kinds s.
    gets_done IsDraft _ (
    let r : KindRow = record { offset = offset.0; kinds = kinds.0 } in
    other_tables d kinds.1 (with_row at r) k (refers_on d offset.1 kinds.1 o.1 s.1)
    (row_kept at r d.tables k.tables room o.0 s.0))))

pub fail_is : (d : Draft) → IsDraft d → Gets IsDraft (fail_in d)
unfolding fail_in
fail_is d k =
    gets_then _ IsDraft _ _ (offset_is Code d k)
    (λ o fits. gets_done IsDraft _
    (other_tables d o.1 (λ (t : Tables). record t { fail_at = Some o.0 }) k fits.1 (record {
      imports = k.tables.imports;
      exports = k.tables.exports;
      sites = k.tables.sites;
      rows = k.tables.rows;
      fail_at = fits.0;
      literal_at = k.tables.literal_at;
      ordered = k.tables.ordered;
    })))

pub literal_is : (d : Draft) → IsDraft d → Gets IsDraft (literal_in d)
unfolding literal_in
literal_is d k =
    gets_then _ IsDraft _ _ (offset_is Code d k)
    (λ o fits. gets_done IsDraft _
    (other_tables d o.1 (λ (t : Tables). record t { literal_at = Some o.0 }) k fits.1 (record {
      imports = k.tables.imports;
      exports = k.tables.exports;
      sites = k.tables.sites;
      rows = k.tables.rows;
      fail_at = k.tables.fail_at;
      literal_at = fits.0;
      ordered = k.tables.ordered;
    })))
