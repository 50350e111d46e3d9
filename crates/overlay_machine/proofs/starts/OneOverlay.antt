-- A linked start has one overlay.
use Rattle.std.proofs.Common.{◌≡◌, ℕ, Bool, true, false, List, map, Option, Some, None, refl, sym, ap, ◌∙◌}
use Rattle.std.specs.Prelude.{option_map, if◌then◌else◌}
use Rattle.std.specs.Ordering.{nat_cmp}
use Rattle.std.specs.Cmp.{nat_cmp_total}
use Rattle.std.specs.FinMap as finite
use Rattle.cap_words.specs.declared.Word.{Word}
use Rattle.lcm_machine.specs.Cells.{cell}
use Rattle.lcm_machine.specs.Spans.{in_spans}
use Rattle.lcm_machine.proofs.Offers.{same_cells, same_regs}
use Rattle.linked_starts.specs.Parts.{PartSeen}
use Rattle.linked_starts.specs.Started.{StartSeen}
use Rattle.linked_starts.proofs.Offers.{are_linked, spans_are_regions, cell_in_region}
use Rattle.linked_starts.specs.LinkedStarts.{IsLinkedStart}
use Rattle.overlay_machine.specs.declared.words.OWord.TheVariants.{Plain}
use Rattle.overlay_machine.specs.Copies.{plain_regs}
use Rattle.overlay_machine.specs.Seen.{OverlaySeen, IsOverlayOf, start_word}
use Rattle.overlay_machine.proofs.Mapping.{reg_mapped, found_mapped}
use Rattle.overlay_machine.specs.Starting.{plain_cells, overlay_at}

-- ---- cells of plain words

cells_plain : (m : finite.FinMap nat_cmp Word) (a : ℕ) → cell (plain_cells m) a ≡ option_map Plain (cell m a)
unfolding cell plain_cells
cells_plain m a =
    finite.get-from_entries nat_cmp_total (map (λ e. (e.0, Plain e.1)) (finite.entries m)) a
    ∙ found_mapped Plain (finite.entries m) a
    ∙ ap (option_map Plain) (sym (finite.get-entries m a))

-- ---- of a linked start

module _ (parts : List PartSeen) (size : ℕ) (s : StartSeen) (linked : IsLinkedStart parts size s) where
  -- each of its cells lies in a span
  pub start_word_is : (a : ℕ) → start_word s.state.maps a ≡ option_map Plain (cell s.state.maps.cells a)
  start_word_is a = by_span (in_spans a s.state.maps.spans) refl (cell s.state.maps.cells a) refl
    where
      by_span : (b : Bool) → in_spans a s.state.maps.spans ≡ b → (x : Option Word)
          → cell s.state.maps.cells a ≡ x
          → (if b then option_map Plain (cell s.state.maps.cells a) else None)
          ≡ option_map Plain (cell s.state.maps.cells a)
      by_span true h x e = refl
      by_span false h None e = sym (ap (option_map Plain) e)
      by_span false h (Some w) e =
          let there =
          cell_in_region parts size a w (are_linked parts size linked.accepted linked.rules).closed
          (sym (linked.starts.state.cells a) ∙ e) in
          absurd (let bad : false ≡ true = sym h
          ∙ spans_are_regions parts size s.state.maps.spans linked.starts.state.spans a ∙ there in cc)

  pub is_overlay : IsOverlayOf s (overlay_at s)
  is_overlay = record {
    sites = refl;
    owners = refl;
    stack = refl;
    regs = reg_mapped Plain s.state.maps.regs;
    cells = λ a. cells_plain s.state.maps.cells a ∙ sym (start_word_is a);
    spans = refl;
    frames = refl;
    calls = refl;
    weight = refl;
    end = refl;
  }

  pub only_overlay : (o : OverlaySeen) → IsOverlayOf s o → o ≡ overlay_at s
  only_overlay o over =
      let regs =
      same_regs o.state.maps.regs (plain_regs s.state.maps.regs)
      (λ r. over.regs r ∙ sym (reg_mapped Plain s.state.maps.regs r)) in
      let cells = same_cells o.state.maps.cells (plain_cells s.state.maps.cells)
      (λ a. over.cells a ∙ start_word_is a ∙ sym (cells_plain s.state.maps.cells a)) in
      λ i. record {
        layout = record { sites = over.sites i; owners = over.owners i; stack = over.stack i };
        state = record {
          maps = record { regs = regs i; cells = cells i; spans = over.spans i };
          frames = over.frames i;
          calls = over.calls i;
        };
        weight = over.weight i;
        end = over.end i;
      }
