-- What holds at each offset of code whose flow is kept.
use Rattle.std.proofs.Common.{◌≡◌, ℕ, ◌+◌, ◌<◌, ◌≤◌, inl, inr, true, false, length, Option, Some, None, refl}
use Rattle.std.proofs.Common.{arith}
use Rattle.std.specs.Option.{option_or}
use Rattle.component_file.specs.declared.component.ComponentFields.{ComponentFields}
use Rattle.component_file.specs.Limits.{IsComponent}
use Rattle.call_sequence.specs.declared.TheConstants.{SITE_WORDS, ENTRY_WORDS}
use Rattle.call_sequence.specs.Kinds.{Row, clean_row}
use Rattle.call_sequence.specs.Places.{begins_entry, begins_site, declared}
use Rattle.call_sequence.specs.declared.flow.Walk.TheVariants.{Before as before}
use Rattle.call_sequence.specs.Walk.{Arrives, RowAt, site_ready}
use Rattle.call_sequence.specs.Verdict.{IsKept}
use Rattle.call_sequence.specs.Local.{LeadsTo, Judged}
use Rattle.call_sequence.proofs.Walks.{ListsKept, leads, word_judged, site_leads, entry_goes}
use Rattle.call_sequence.proofs.Placed.{placed_lists}

module _ (c : ComponentFields) (fits : IsComponent c) (kept : IsKept c) where
  placed : ListsKept c
  placed = placed_lists c kept.placed fits

  row_within : (o : ℕ) (r : Row) → RowAt c o r → o < length c.code
  row_within o r (inl h) = let l : o + ENTRY_WORDS ≤ length c.code = (placed.entries o h.0).0 in omega arith
  row_within o r (inr h) = by_declared (declared c o) refl h.1.0 h.1.1 h.1.2
    where
      by_declared : (d : Option Row) → declared c o ≡ d → (current : Option Row)
          → Arrives c (before o current)
          → option_or d current ≡ Some r → o < length c.code
      by_declared (Some d) e current h k = (placed.rows o d e).0
      by_declared None e None h k = cc
      by_declared None e (Some q) h k = (leads c kept.walked o q h).inside

  pub word_flows : (o : ℕ) (r : Row) → begins_entry c o ≡ false → begins_site c o ≡ false → RowAt c o r
      → Judged c o r
  word_flows o r ne ns h = word_judged c kept.walked placed o r (row_within o r h) ne ns h

  pub site_flows : (o : ℕ) (r : Row) → begins_site c o ≡ true → RowAt c o r → (site_ready r ≡ true)
      × LeadsTo c (o + SITE_WORDS) clean_row
  site_flows o r e h = site_leads c kept.walked o r (row_within o r h) (placed.sites o e).1 e h

  pub entry_flows : (o : ℕ) → begins_entry c o ≡ true → LeadsTo c (o + ENTRY_WORDS) clean_row
  entry_flows o e = entry_goes c kept.walked placed o e
