-- The readers of lists, and of the items in them.
use Rattle.std.proofs.Common.{◌≡◌, ℕ, ◌^◌, ◌<◌, ◌≤◌, List, ◌++◌, length, Option, Some, None, refl, ap}
use Rattle.std.proofs.Common.{append-nil, arith}
use Rattle.std.specs.Prelude.{IsTrue, nat_lt, option_map}
use Rattle.std.specs.List.{flat_map}
use Rattle.cap_words.specs.declared.Word.{Word}
use Rattle.cap_words.specs.WordBytes.{word_bytes_of, WordFits, IsUnsealed}
use Rattle.readers.specs.Readers.{Reader}
use Rattle.cap_words.specs.Reading.{Input, meant, next_number, within}
use Rattle.readers.proofs.Offers.{All, reads_then, reads_last, reads_done, reads_as, reads_text, reads_placed}
use Rattle.readers.proofs.Offers.{reads_learned, reads_holds, items_read}
use Rattle.cap_words.proofs.Offers.{Reads, within_reads, unsealed_reads}
use Rattle.component_file.specs.declared.TheConstants.{LAST_OFFSET, MOST_WORDS}
use Rattle.component_file.specs.declared.fault.FileFault.{FileFault}
use Rattle.component_file.specs.declared.fault.FileFault.TheVariants.{Short, Order}
use Rattle.component_file.specs.declared.component.Import.{Import}
use Rattle.component_file.specs.declared.component.Export.{Export}
use Rattle.component_file.specs.declared.component.KindRow.{KindRow}
use Rattle.component_file.specs.Limits.{ascends, name_lt, Chain, Each, ImportFits, ExportFits, SiteFits}
use Rattle.component_file.specs.Limits.{KindFits, KindRowFits, WordsFit}
use Rattle.component_file.specs.Spelling.{u32_bytes, name_bytes, list_bytes, import_bytes, export_bytes}
use Rattle.component_file.specs.Spelling.{row_bytes}
use Rattle.component_file.specs.Reading.{field, next_name, next_offset, next_flag, next_kind, next_items}
use Rattle.component_file.specs.Reading.{next_list, next_part_word, next_import, next_export, next_site}
use Rattle.component_file.specs.Reading.{next_row, next_words}
use Rattle.component_file.proofs.FieldLaws.{reads_field, name_reads, offset_reads, flag_reads, kind_reads}

-- ---- lists

module _ {A : Type 0} {P : Option A → A → Type 0} {t : A → List ℕ}
    (item : Option A → Reader Input FileFault A)
    (each : (b : Option A) → Reads Short All (P b) t (item b)) where
  pub list_items : (n : ℕ)
      → Reads Short (λ xs. All xs × (length xs ≡ n)) (Chain P None) (flat_map t) (next_items item n None)
  list_items n =
      items_read (λ _ x. Some x) item each (Chain P) (λ b. tt) (λ b x xs h. h) (λ b x xs h. h) n None

  pub list_read : (len low high : ℕ) → high < 256 ^ len
      → Reads Short All (λ xs. ((low ≤ length xs) × (length xs ≤ high)) × Chain P None xs) (list_bytes len t)
      (next_list len low high item)
  unfolding next_list list_bytes
  list_read len low high fits =
      reads_then length (field (meant (within low high) (next_number len))) (λ n. next_items item n None)
      (reads_field (within_reads len low high fits)) (λ n p. list_items n)

-- ---- items

pub word_reads : (b : Option Word) → Reads Short All (λ w. WordFits w × IsUnsealed w) word_bytes_of
    (next_part_word b)
unfolding next_part_word
word_reads b = reads_field unsealed_reads

pub import_reads : (b : Option Import) → Reads Short All (ImportFits b) import_bytes (next_import b)
unfolding next_import import_bytes
import_reads b = reads_placed _ (λ at.
    reads_as _
    (reads_text _
    (λ c k. ap (λ l. name_bytes c.part ++ (name_bytes c.name ++ l)) (append-nil (u32_bytes c.slot)))
    (reads_then (λ (c : Import). c.part) (field next_name) _ (reads_field name_reads) (λ part p0.
    reads_then (λ (c : Import). c.name) (field next_name) _ (reads_field name_reads) (λ name p1.
    reads_then {P = λ (c : Import). IsTrue (ascends nat_lt (option_map (λ i. i.slot) b) c.slot) × All c}
    (λ (c : Import). c.slot) (field next_offset) _ (reads_field offset_reads) (λ slot p2.
    reads_holds (ascends nat_lt (option_map (λ i. i.slot) b) slot) (Order at)
    (λ (c : Import). ascends nat_lt (option_map (λ i. i.slot) b) c.slot) _
    (λ c k. ap (ascends nat_lt (option_map (λ i. i.slot) b)) k.1)
    (reads_done (record { part = part; name = name; slot = slot })
    (λ c k. rw (← k.1, ← k.0.1, ← k.0.0.1) refl) (((tt, refl), refl), refl)))))))
    (λ c k p. (p.0, p.1.0, p.1.1.0, p.1.1.1.0))
    (λ c k p. (p.0, (p.1, (p.2, (p.3, tt))))))

pub site_reads : (b : Option ℕ) → Reads Short All (SiteFits b) u32_bytes (next_site b)
unfolding next_site
site_reads b = reads_placed _ (λ at.
    reads_as _
    (reads_text _ (λ c k. append-nil (u32_bytes c))
    (reads_then {P = λ c. IsTrue (ascends nat_lt b c) × All c} (λ (c : ℕ). c) (field next_offset) _
    (reads_field offset_reads) (λ site p0.
    reads_holds (ascends nat_lt b site) (Order at) (λ c. ascends nat_lt b c) _
    (λ c k. ap (ascends nat_lt b) k.1)
    (reads_done site (λ c k. k.1) (tt, refl)))))
    (λ c k p. (p.0, p.1.0))
    (λ c k p. (p.0, (p.1, tt))))

pub export_reads : (b : Option Export) → Reads Short All (ExportFits b) export_bytes (next_export b)
unfolding next_export export_bytes
export_reads b = reads_placed _ (λ at.
    reads_as _
    (reads_then {P = λ (c : Export). IsTrue (ascends name_lt (option_map (λ e. e.name) b) c.name)
    × ((c.offset ≤ LAST_OFFSET) × All c.shared)} (λ (c : Export). c.name) (field next_name) _
    (reads_field name_reads) (λ name p0.
    reads_holds (ascends name_lt (option_map (λ e. e.name) b) name) (Order at)
    (λ (c : Export). ascends name_lt (option_map (λ e. e.name) b) c.name) _
    (λ c k. ap (ascends name_lt (option_map (λ e. e.name) b)) k.1)
    (reads_then (λ (c : Export). c.offset) (field next_offset) _ (reads_field offset_reads) (λ offset p1.
    reads_last (λ (c : Export). c.shared) (field next_flag)
    (λ shared. record { name = name; offset = offset; shared = shared }) (reads_field flag_reads)
    (λ c k. rw (← k.1, ← k.0.1) refl) (λ shared p2. (((tt, refl), refl), refl))))))
    (λ c k p. (p.0, p.1.0, p.1.1.0))
    (λ c k p. (p.0, (p.1, (p.2, tt)))))

pub row_reads : (b : Option KindRow) → Reads Short All (KindRowFits b) row_bytes (next_row b)
unfolding next_row row_bytes
row_reads b = reads_placed _ (λ at.
    reads_as _
    (reads_then {P = λ (c : KindRow). IsTrue (ascends nat_lt (option_map (λ r. r.offset) b) c.offset)
    × ((length c.kinds ≡ 15) × Each KindFits c.kinds)} (λ (c : KindRow). c.offset) (field next_offset) _
    (reads_field offset_reads) (λ offset p0.
    reads_holds (ascends nat_lt (option_map (λ r. r.offset) b) offset) (Order at)
    (λ (c : KindRow). ascends nat_lt (option_map (λ r. r.offset) b) c.offset) _
    (λ c k. ap (ascends nat_lt (option_map (λ r. r.offset) b)) k.1)
    (reads_last (λ (c : KindRow). c.kinds) (next_items (λ _. field next_kind) 15 None)
    (λ kinds. record { offset = offset; kinds = kinds })
    (reads_learned (list_items (λ _. field next_kind) (λ _. reads_field kind_reads) 15))
    (λ c k. rw (← k.1) refl) (λ kinds p1. ((tt, refl), refl)))))
    (λ c k p. (p.0, p.1.0, p.1.1))
    (λ c k p. (p.0, (p.1, p.2))))

pub words_reads : Reads Short All WordsFit (list_bytes 4 word_bytes_of) next_words
unfolding next_words
words_reads = list_read next_part_word word_reads 4 1 MOST_WORDS (omega arith)
