-- A component's spelling is so short that it can be decoded.
use Rattle.std.proofs.Common.{◌≡◌, ℕ, ◌+◌, ◌*◌, ◌^◌, ◌<◌, ◌≤◌, List, [], ◌∷◌, ◌++◌, length, Option, Some}
use Rattle.std.proofs.Common.{None, refl, arith, length-append}
use Rattle.std.specs.List.{flat_map}
use Rattle.cap_words.specs.declared.Word.{Word}
use Rattle.cap_words.specs.declared.Word.TheVariants.{Int as IntWord, Mem, Seal, Sealed}
use Rattle.cap_words.specs.WordBytes.{number_bytes, signed_bytes, cap_bytes, seal_bytes, word_bytes_of}
use Rattle.cap_words.specs.WordBytes.{WordFits, IsUnsealed}
use Rattle.component_file.specs.declared.TheConstants.{MOST_WORDS, MOST_IMPORTS, MOST_EXPORTS, MOST_SITES}
use Rattle.component_file.specs.declared.TheConstants.{MOST_ROWS}
use Rattle.component_file.specs.declared.component.Kind.{Kind}
use Rattle.component_file.specs.declared.component.Kind.TheVariants.{Any, Int, DataCap, Stk, Pc, Top}
use Rattle.component_file.specs.declared.component.Import.{Import}
use Rattle.component_file.specs.declared.component.Export.{Export}
use Rattle.component_file.specs.declared.component.KindRow.{KindRow}
use Rattle.component_file.specs.declared.component.ComponentFields.{ComponentFields}
use Rattle.component_file.specs.Limits.{Chain, Each, ImportFits, ExportFits, SiteFits, KindFits, KindRowFits}
use Rattle.component_file.specs.Limits.{IsComponent}
use Rattle.component_file.specs.Spelling.{version_of, u32_bytes, name_bytes, stretch_bytes, list_bytes}
use Rattle.component_file.specs.Spelling.{import_bytes, export_bytes, flag_byte, optional_bytes, kind_bytes}
use Rattle.component_file.specs.Spelling.{row_bytes, spelling}
use Rattle.component_file.proofs.CanWrite.{name_is_short}

u16_length : (n : ℕ) → length (number_bytes 2 n) ≡ 2
unfolding number_bytes
u16_length n = refl

u32_length : (n : ℕ) → length (number_bytes 4 n) ≡ 4
unfolding number_bytes
u32_length n = refl

-- items of at most k bytes each
items_length : {A : Type 0} {P : Option A → A → Type 0} (t : A → List ℕ) (k : ℕ)
    → ((b : Option A) (x : A) → P b x → length (t x) ≤ k) → (b : Option A) (xs : List A) → Chain P b xs
    → length (flat_map t xs) ≤ k * length xs
items_length t k each b [] c = omega arith
items_length t k each b (x ∷ xs) c =
    omega (arith, length-append (t x) (flat_map t xs), each b x c.0, items_length t k each (Some x) xs c.1)

word_length : (w : Word) → IsUnsealed w → length (word_bytes_of w) ≤ 24
unfolding number_bytes signed_bytes cap_bytes seal_bytes
word_length (IntWord n) u = omega arith
word_length (Mem c) u = omega arith
word_length (Seal s) u = omega arith
word_length (Sealed seal content) u = absurd u

import_length : (b : Option Import) (i : Import) → ImportFits b i → length (import_bytes i) ≤ 600
unfolding import_bytes
import_length b i f =
    omega (
      arith,
      name_is_short i.part f.0,
      name_is_short i.name f.1,
      length-append (name_bytes i.part)
          (name_bytes i.name ++ u32_bytes i.slot),
      length-append (name_bytes i.name) (u32_bytes i.slot),
      u32_length i.slot,
    )

export_length : (b : Option Export) (e : Export) → ExportFits b e → length (export_bytes e) ≤ 600
unfolding export_bytes
export_length b e f =
    omega (
      arith,
      name_is_short e.name f.0,
      length-append (name_bytes e.name)
          (u32_bytes e.offset ++ (flag_byte e.shared ∷ [])),
      length-append (u32_bytes e.offset)
          (flag_byte e.shared ∷ []),
      u32_length e.offset,
    )

kind_length : (k : Kind) → length (kind_bytes k) ≤ 5
unfolding number_bytes
kind_length Any = omega arith
kind_length Int = omega arith
kind_length DataCap = omega arith
kind_length Stk = omega arith
kind_length (Pc offset) = omega arith
kind_length Top = omega arith

row_length : (b : Option KindRow) (r : KindRow) → KindRowFits b r → length (row_bytes r) ≤ 79
unfolding row_bytes
row_length b r f =
    let kinds = items_length {P = λ _. KindFits} kind_bytes 5 (λ c k p. kind_length k) None r.kinds f.2.1 in
    omega (
      arith,
      length-append (u32_bytes r.offset) (flat_map kind_bytes r.kinds),
      u32_length r.offset,
      kinds,
      f.2.0,
    )

stretch_length : (base count : ℕ) → length (stretch_bytes base count) ≡ 8
unfolding stretch_bytes
stretch_length base count = omega (
  arith,
  length-append (u32_bytes count) (u32_bytes base),
  u32_length count,
  u32_length base,
)

optional_length : (o : Option ℕ) → length (optional_bytes o) ≤ 5
optional_length None = omega arith
optional_length (Some n) = omega (arith, u32_length n)

short_list_length : {A : Type 0} (t : A → List ℕ) (xs : List A) → length (list_bytes 2 t xs) ≡ 2 + length
    (flat_map t xs)
unfolding list_bytes
short_list_length t xs =
    omega (arith, length-append (number_bytes 2 (length xs)) (flat_map t xs), u16_length (length xs))

long_list_length : {A : Type 0} (t : A → List ℕ) (xs : List A) → length (list_bytes 4 t xs) ≡ 4 + length
    (flat_map t xs)
unfolding list_bytes
long_list_length t xs =
    omega (arith, length-append (number_bytes 4 (length xs)) (flat_map t xs), u32_length (length xs))

words_length : (words : List Word) → length words ≤ MOST_WORDS → Each (λ w. WordFits w × IsUnsealed w) words
    → length (list_bytes 4 word_bytes_of words) < 2 ^ 24
words_length words few each =
    omega (
      arith,
      long_list_length word_bytes_of words,
      items_length {P = λ _ w. WordFits w × IsUnsealed w} word_bytes_of 24
          (λ b w p. word_length w p.1) None words each,
    )

imports_length : (imports : List Import) → length imports ≤ MOST_IMPORTS → Chain ImportFits None imports
    → length (list_bytes 2 import_bytes imports) < 2 ^ 24
imports_length imports few each =
    omega (
      arith,
      short_list_length import_bytes imports,
      items_length {P = ImportFits} import_bytes 600 import_length None imports each,
    )

exports_length : (exports : List Export) → length exports ≤ MOST_EXPORTS → Chain ExportFits None exports
    → length (list_bytes 2 export_bytes exports) < 2 ^ 24
exports_length exports few each =
    omega (
      arith,
      short_list_length export_bytes exports,
      items_length {P = ExportFits} export_bytes 600 export_length None exports each,
    )

sites_length : (sites : List ℕ) → length sites ≤ MOST_SITES → Chain SiteFits None sites
    → length (list_bytes 2 u32_bytes sites) < 2 ^ 24
sites_length sites few each =
    omega (
      arith,
      short_list_length u32_bytes sites,
      items_length {P = SiteFits} u32_bytes 4
          (λ b s p. omega (arith, u32_length s)) None sites each,
    )

rows_length : (rows : List KindRow) → length rows ≤ MOST_ROWS → Chain KindRowFits None rows
    → length (list_bytes 4 row_bytes rows) < 2 ^ 24
rows_length rows few each =
    omega (
      arith,
      long_list_length row_bytes rows,
      items_length {P = KindRowFits} row_bytes 79 row_length None rows
          each,
    )

pub spelling_length : (c : ComponentFields) → IsComponent c → length (spelling c) < 2 ^ 32
unfolding spelling
spelling_length c fits =
    simp length-append (omega (
      arith,
      u16_length (version_of c.movable),
      name_is_short c.name fits.name,
      u32_length c.stack_base,
      u32_length c.closure,
      stretch_length c.seals.base c.seals.count,
      stretch_length c.linear.base c.linear.count,
      u32_length c.code_base,
      words_length c.code fits.code.0.1 fits.code.1,
      u32_length c.data_base,
      words_length c.data_words fits.data_words.0.1 fits.data_words.1,
      imports_length c.imports fits.imports.0 fits.imports.1,
      exports_length c.exports fits.exports.0 fits.exports.1,
      sites_length c.sites fits.sites.0 fits.sites.1,
      optional_length c.fail_at,
      optional_length c.literal_at,
      rows_length c.rows fits.rows.0 fits.rows.1,
    ))
