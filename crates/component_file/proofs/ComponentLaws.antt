-- A component is read where it is spelled, and spelled where it was read.
use Rattle.std.proofs.Common.{◌≡◌, ℕ, ◌^◌, Some, None, ◌<◌, ◌≤◌, Bool, true, false, cond, eqb, List, ◌∷◌}
use Rattle.std.proofs.Common.{◌++◌, length, Ok, Err, refl, sym, ap, ◌∙◌, append-nil, arith, take}
use Rattle.std.specs.Str.{bytes_eq}
use Rattle.std.proofs.lemmas.Bool.{eqb-true}
use Rattle.std.proofs.lemmas.Slice.Eq.{bytes_eq-Decides}
use Rattle.cap_words.specs.Stretch.{Stretch}
use Rattle.cap_words.specs.Reading.{next_bytes, next_number}
use Rattle.readers.specs.Answers.{Fails}
use Rattle.readers.proofs.Offers.{All, reads_then, reads_done, reads_as, reads_text, reads_tells}
use Rattle.readers.proofs.Offers.{reads_meaning}
use Rattle.readers.proofs.Offers as whole
use Rattle.cap_words.proofs.Offers.{IsBytes, Reads, number_reads}
use Rattle.component_file.specs.declared.TheConstants.{MOST_IMPORTS, MOST_EXPORTS, MOST_SITES, MOST_ROWS}
use Rattle.component_file.specs.declared.fault.FileFault.{FileFault}
use Rattle.component_file.specs.declared.fault.FileFault.TheVariants.{Magic, Version, Short}
use Rattle.component_file.specs.declared.fault.FileFault.TheVariants.{Trailing, NoMemory}
use Rattle.component_file.specs.declared.component.ComponentFields.{ComponentFields}
use Rattle.component_file.specs.Fault.{is_refusal}
use Rattle.component_file.specs.Limits.{IsComponent}
use Rattle.component_file.specs.Spelling.{u16_bytes, version_of, magic, spelling, SpellsComponent}
use Rattle.component_file.specs.Reading.{field, version_meant, next_name, next_address, next_stretch}
use Rattle.component_file.specs.Reading.{next_optional, next_list, next_import, next_export, next_site}
use Rattle.component_file.specs.Reading.{next_row, next_header, next_words, next_component, decoded}
use Rattle.component_file.proofs.FieldLaws.{reads_field, four_read, name_reads, address_reads, stretch_reads}
use Rattle.component_file.proofs.FieldLaws.{optional_reads}
use Rattle.component_file.proofs.ListLaws.{list_read, import_reads, export_reads, site_reads, row_reads}
use Rattle.component_file.proofs.ListLaws.{words_reads}

-- ---- magic and version

version_there : (n : ℕ) (b : Bool) → version_meant n ≡ Some b → version_of b ≡ n
version_there n b e = by_tests (eqb n 1) (eqb n 2) refl refl
  where
    by_tests : (s t : Bool) → eqb n 1 ≡ s → eqb n 2 ≡ t → version_of b ≡ n
    by_tests true t f g =
        let is : Some false ≡ Some b =
        sym (ap (λ v. cond v (Some false) (cond (eqb n 2) (Some true) None)) f) ∙ e in
        let same : false ≡ b = cc in
        ap version_of (sym same) ∙ sym (eqb-true n 1 f)
    by_tests false true f g =
        let is : Some true ≡ Some b = sym (rw (f, g) refl) ∙ e in
        let same : true ≡ b = cc in
        ap version_of (sym same) ∙ sym (eqb-true n 2 g)
    by_tests false false f g = let is : None ≡ Some b = sym (rw (f, g) refl) ∙ e in absurd cc

version_back : (b : Bool) → version_meant (version_of b) ≡ Some b
version_back false = refl
version_back true = refl

version_small : (b : Bool) → version_of b < 2 ^ 16
version_small false = omega arith
version_small true = omega arith

header_reads : Reads Short All (All {A = Bool}) (λ movable. magic ++ u16_bytes (version_of movable))
    next_header
unfolding next_header
header_reads = reads_as next_header
    (reads_text _ (λ c k. ap (λ l. magic ++ l) (append-nil (u16_bytes (version_of c))))
    (reads_then (λ (c : Bool). magic) (field (next_bytes 4)) _ (reads_field four_read) (λ four p0.
    reads_tells (bytes_eq four magic) Magic _ (λ e. sym ((bytes_eq-Decides four magic).0 e))
    (λ e. (bytes_eq-Decides four magic).1 (sym e))
    (reads_then version_of (field (next_number 2)) _ (reads_field (number_reads 2)) (λ version p1.
    reads_meaning version_meant version_of Version version version_there version_back (λ b e. (tt, e))
    (λ b k. k.1))))))
    (λ c k p. tt)
    (λ c k p. (refl, (version_small c, tt)))

-- ---- the component

pub component_reads : Reads Short All IsComponent spelling next_component
unfolding next_component spelling
component_reads = reads_as next_component
    (reads_then (λ (c : ComponentFields). c.movable) next_header _ header_reads (λ movable p0.
    reads_then (λ (c : ComponentFields). c.name) (field next_name) _ (reads_field name_reads) (λ name p1.
    reads_then (λ (c : ComponentFields). c.stack_base) (field next_address) _ (reads_field address_reads)
    (λ stack_base p2.
    reads_then (λ (c : ComponentFields). c.closure) (field next_address) _ (reads_field address_reads)
    (λ closure p3.
    reads_then (λ (c : ComponentFields). c.seals) (field next_stretch) _ (reads_field stretch_reads)
    (λ seals p4.
    reads_then {A = Stretch}
    (λ (c : ComponentFields). record { base = c.linear.base; count = c.linear.count })
    (field next_stretch) _ (reads_field stretch_reads) (λ linear p5.
    reads_then (λ (c : ComponentFields). c.code_base) (field next_address) _ (reads_field address_reads)
    (λ code_base p6.
    reads_then (λ (c : ComponentFields). c.code) next_words _ words_reads (λ code p7.
    reads_then (λ (c : ComponentFields). c.data_base) (field next_address) _ (reads_field address_reads)
    (λ data_base p8.
    reads_then (λ (c : ComponentFields). c.data_words) next_words _ words_reads (λ data_words p9.
    reads_then (λ (c : ComponentFields). c.imports) (next_list 2 0 MOST_IMPORTS next_import) _
    (list_read next_import import_reads 2 0 MOST_IMPORTS (omega arith)) (λ imports p10.
    reads_then (λ (c : ComponentFields). c.exports) (next_list 2 0 MOST_EXPORTS next_export) _
    (list_read next_export export_reads 2 0 MOST_EXPORTS (omega arith)) (λ exports p11.
    reads_then (λ (c : ComponentFields). c.sites) (next_list 2 0 MOST_SITES next_site) _
    (list_read next_site site_reads 2 0 MOST_SITES (omega arith)) (λ sites p12.
    reads_then (λ (c : ComponentFields). c.fail_at) (field next_optional) _ (reads_field optional_reads)
    (λ fail_at p13.
    reads_then (λ (c : ComponentFields). c.literal_at) (field next_optional) _ (reads_field optional_reads)
    (λ literal_at p14.
    reads_then (λ (c : ComponentFields). c.rows) (next_list 4 0 MOST_ROWS next_row) _
    (list_read next_row row_reads 4 0 MOST_ROWS (omega arith)) (λ rows p15.
    reads_done _
    (λ c k. rw (
      ← k.1,
      ← k.0.1,
      ← k.0.0.1,
      ← k.0.0.0.1,
      ← k.0.0.0.0.1,
      ← k.0.0.0.0.0.1,
      ← k.0.0.0.0.0.0.1,
      ← k.0.0.0.0.0.0.0.1,
      ← k.0.0.0.0.0.0.0.0.1,
      ← k.0.0.0.0.0.0.0.0.0.1,
      ← k.0.0.0.0.0.0.0.0.0.0.1,
      ← k.0.0.0.0.0.0.0.0.0.0.0.1,
      ← k.0.0.0.0.0.0.0.0.0.0.0.0.1,
      ← k.0.0.0.0.0.0.0.0.0.0.0.0.0.1,
      ← k.0.0.0.0.0.0.0.0.0.0.0.0.0.0.1,
      ← k.0.0.0.0.0.0.0.0.0.0.0.0.0.0.0.1,
    ) refl) (
      (
        (
          (
            (
              (((((((((((tt, refl), refl), refl), refl), refl), refl), refl), refl), refl), refl), refl),
              refl,
            ),
            refl,
          ),
          refl,
        ),
        refl,
      ),
      refl,
    ))))))))))))))))))
    (λ c k p. record {
      name = p.1.0;
      stack_base = p.1.1.0;
      closure = p.1.1.1.0;
      seals = p.1.1.1.1.0;
      linear = p.1.1.1.1.1.0;
      code_base = p.1.1.1.1.1.1.0;
      code = p.1.1.1.1.1.1.1.0;
      data_base = p.1.1.1.1.1.1.1.1.0;
      data_words = p.1.1.1.1.1.1.1.1.1.0;
      imports = (p.1.1.1.1.1.1.1.1.1.1.0.0.1, p.1.1.1.1.1.1.1.1.1.1.0.1);
      exports = (p.1.1.1.1.1.1.1.1.1.1.1.0.0.1, p.1.1.1.1.1.1.1.1.1.1.1.0.1);
      sites = (p.1.1.1.1.1.1.1.1.1.1.1.1.0.0.1, p.1.1.1.1.1.1.1.1.1.1.1.1.0.1);
      fail_at = p.1.1.1.1.1.1.1.1.1.1.1.1.1.0;
      literal_at = p.1.1.1.1.1.1.1.1.1.1.1.1.1.1.0;
      rows = (p.1.1.1.1.1.1.1.1.1.1.1.1.1.1.1.0.0.1, p.1.1.1.1.1.1.1.1.1.1.1.1.1.1.1.0.1);
    })
    (λ c k p. (
      tt,
      (
        p.name,
        (
          p.stack_base,
          (
            p.closure,
            (
              p.seals,
              (
                p.linear,
                (
                  p.code_base,
                  (
                    p.code,
                    (
                      p.data_base,
                      (
                        p.data_words,
                        (
                          ((omega arith, p.imports.0), p.imports.1),
                          (
                            ((omega arith, p.exports.0), p.exports.1),
                            (
                              ((omega arith, p.sites.0), p.sites.1),
                              (p.fail_at, (p.literal_at, (((omega arith, p.rows.0), p.rows.1), tt))),
                            ),
                          ),
                        ),
                      ),
                    ),
                  ),
                ),
              ),
            ),
          ),
        ),
      ),
    ))

-- ---- whole files

pub found_whole : (bytes : List ℕ) (c : ComponentFields) → IsBytes bytes → decoded bytes ≡ Ok c
    → IsComponent c × (bytes ≡ spelling c)
unfolding decoded
found_whole = whole.found_whole component_reads Trailing

pub read_whole : (c : ComponentFields) → IsComponent c → decoded (spelling c) ≡ Ok c
unfolding decoded
read_whole = whole.again_whole component_reads Trailing

-- a component that was cut is short somewhere
pub read_cut : (c : ComponentFields) (n : ℕ) → IsComponent c → n < length (spelling c)
    → (at : ℕ) × (at ≤ n) × (decoded (take n (spelling c)) ≡ Err (Short at))
unfolding decoded
read_cut = whole.cut_whole component_reads Trailing

-- what stands after a component is too much
pub read_past : (c : ComponentFields) (b : ℕ) (more : List ℕ) → IsComponent c
    → decoded (spelling c ++ b ∷ more) ≡ Err (Trailing (length (spelling c)))
unfolding decoded
read_past = whole.past_whole component_reads Trailing

refusal_is : (e : FileFault) → is_refusal e ≡ true → e ≡ NoMemory
refusal_is NoMemory is = refl
refusal_is e is = absurd cc

-- only memory keeps a component from being read
pub only_memory : (bytes : List ℕ) (e : FileFault) (c : ComponentFields) → Fails is_refusal e (decoded bytes)
    → SpellsComponent bytes c → e ≡ NoMemory
unfolding decoded
only_memory bytes e c f s =
    refusal_is e (whole.refused_whole component_reads Trailing is_refusal bytes e c f s)

pub only_one : (bytes : List ℕ) (c d : ComponentFields) → decoded bytes ≡ Ok c → SpellsComponent bytes d → c
    ≡ d
unfolding decoded
only_one = whole.one_whole component_reads Trailing
