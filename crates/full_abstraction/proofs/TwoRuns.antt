-- The one halts where it is entered, and the other fails.
use Rattle.std.proofs.Common.{◌≡◌, ◌+◌, pos, Bool, true, false, [], Some, refl, ap, subst, ◌∙◌, arith}
use Rattle.std.specs.Prelude.{option_map}
use Rattle.cap_words.specs.declared.Word.TheVariants.{Mem}
use Rattle.cap_words.specs.declared.Perm.TheVariants.{Rw}
use Rattle.cap_words.specs.declared.Lin.TheVariants.{Normal, Linear}
use Rattle.lcm_isa.specs.declared.Reg.TheVariants.{Pc}
use Rattle.lcm_isa.specs.Numbers.{IsInstr}
use Rattle.lcm_machine.specs.Cells.{cell}
use Rattle.lcm_machine.specs.Row.{faces, cell_faces, fetch, some, look_face, row}
use Rattle.lcm_machine.specs.Runs.{code_cap}
use Rattle.lcm_machine.proofs.Offers.{fetch_at, step_row, halt_halts, fail_fails}
use Rattle.call_sequence.specs.declared.TheConstants.{ENTRY_WORDS}
use Rattle.call_sequence.specs.Sequences.{entry_code}
use Rattle.linked_starts.specs.Start.{start_cell, start_regs, part_word}
use Rattle.linked_starts.specs.Owners.{owner_of}
use Rattle.linked_starts.proofs.Offers.{as_word}
use Rattle.trusted_border.specs.declared.layout.Layout.{Layout}
use Rattle.trusted_border.specs.Layout.{trusted_at}
use Rattle.overlay_machine.specs.declared.words.OWord.TheVariants.{Plain}
use Rattle.overlay_machine.specs.declared.cases.Case.TheVariants.{Other}
use Rattle.overlay_machine.specs.State.{OState, Cells}
use Rattle.overlay_machine.specs.Words.{look}
use Rattle.overlay_machine.specs.Step.{goes, need, own_stack, with_frames, case_fetched, case_trusted}
use Rattle.overlay_machine.specs.Step.{case_of, entry_step, other_step, step_by, overlay_step, weight_of}
use Rattle.overlay_machine.specs.Runs.{Reached}
use Rattle.overlay_machine.specs.Seen.{IsOverlayOf}
use Rattle.overlay_machine.specs.Starting.{overlay_at}
use Rattle.overlay_machine.proofs.Offers.{is_overlay, start_word_is}
use Rattle.run_lines.specs.Layout.{layout}
use Rattle.run_lines.specs.Cuts.{Matched}
use Rattle.headline.specs.Headline.{OverlayHalts, OverlayFails}
use Rattle.headline.proofs.Offers.{regs_with, zero_}
use Rattle.full_abstraction.proofs.TwoParts.{last_of, both}
use Rattle.full_abstraction.proofs.TwoStarts.{start, spans, cells_are, is_linked}

module _ (b : Bool) where
  abbrev L : Layout
  L = layout (start b)

  abbrev M : Cells
  M = (overlay_at (start b)).state.maps.cells

  over : IsOverlayOf (start b) (overlay_at (start b))
  over = is_overlay (both b) 4 (start b) (is_linked b)

  at_last : start_cell (both b) 4 21 ≡ Some (as_word (last_of b))
  unfolding start_cell part_word entry_code
  at_last = refl

  has : cell M 21 ≡ Some (Plain (as_word (last_of b)))
  has = over.cells 21 ∙ start_word_is (both b) 4 (start b) (is_linked b) 21
      ∙ ap (option_map Plain) (cells_are b 21 ∙ at_last)

  abbrev first : OState
  first = (overlay_at (start b)).state

  -- after the entry
  abbrev pub inside : OState
  inside = record {
    maps = record {
      regs = regs_with (Plain (Mem (code_cap 1 22 21))) zero_ zero_
          (Plain (Mem (record { perm = Rw; lin = Linear; base = 87; end = 90; addr = pos 90 })))
          (Plain (Mem (record { perm = Rw; lin = Normal; base = 74; end = 74; addr = pos 74 })))
          zero_ zero_;
      cells = M;
      spans = spans b;
    };
    frames = [];
    calls = 0;
  }

  enters : overlay_step L first ≡ goes inside
  unfolding overlay_step case_of entry_step own_stack need faces owner_of start_regs entry_code
  enters = refl

  weight : weight_of L first ≡ ENTRY_WORDS
  unfolding weight_of case_of faces owner_of start_regs entry_code
  weight = refl

  pub matched : Matched (start b) ENTRY_WORDS inside
  matched = subst (λ n. Matched (start b) (0 + n) inside) weight (Reached.goes_on Reached.begins enters)

  -- ---- the instruction there

  is_instr : (x : Bool) → IsInstr (last_of x)
  is_instr true = tt
  is_instr false = tt

  fetched : fetch (faces look inside.maps Pc) (cell_faces look inside.maps)
      ≡ some (last_of b) (Mem (code_cap 1 22 22))
  fetched =
      fetch_at look Plain inside.maps 1 22 21 (last_of b) refl (omega arith) (omega arith)
      (ap (look_face look) has) (is_instr b)

  no_case : (x : Bool) → case_trusted L (trusted_at L (faces look inside.maps Pc))
      (case_fetched inside.maps (some (last_of x) (Mem (code_cap 1 22 22)))) ≡ Other
  unfolding faces owner_of entry_code
  no_case true = refl
  no_case false = refl

  is_other : case_of L inside.maps ≡ Other
  unfolding case_of
  is_other =
      ap (λ f. case_trusted L (trusted_at L (faces look inside.maps Pc)) (case_fetched inside.maps f)) fetched
      ∙ no_case b

  pub steps : overlay_step L inside
      ≡ with_frames [] 0 (row look Plain (last_of b) (Mem (code_cap 1 22 22)) inside.maps)
  unfolding overlay_step other_step
  steps =
      ap (λ c. step_by L c inside) is_other
      ∙ ap (with_frames [] 0) (step_row look Plain inside.maps 1 22 21 (last_of b) refl (omega arith)
      (omega arith) (ap (look_face look) has) (is_instr b))

pub halts_there : OverlayHalts (start true) (inside true)
halts_there =
    steps true
    ∙ ap (with_frames [] 0) (halt_halts look Plain (Mem (code_cap 1 22 22)) (inside true).maps)

pub fails_there : OverlayFails (start false) (inside false)
fails_there =
    steps false
    ∙ ap (with_frames [] 0) (fail_fails look Plain (Mem (code_cap 1 22 22)) (inside false).maps)
