-- The machine of a start, once its registers are set.
use Rattle.std.proofs.Common.{◌≡◌, ℕ, ◌+◌, ◌-◌, List, Some, None, ap, sym, subst, ◌∙◌}
use Rattle.cap_words.specs.declared.Word.{Word}
use Rattle.lcm_machine.specs.declared.cells.Span.{Span}
use Rattle.lcm_machine.specs.Cells.{cell}
use Rattle.lcm_machine.specs.Maps.{Regs, State}
use Rattle.lcm_machine.specs.Spans.{zero_regs}
use Rattle.lcm_machine.specs.Run.{Run}
use Rattle.lcm_machine.specs.Regions.{HeldOnce}
use Rattle.linked_starts.specs.Parts.{PartSeen}
use Rattle.linked_starts.specs.Regions.{regions_of, AreSpansOf}
use Rattle.linked_starts.specs.Start.{Exported, main_of, start_cell, start_regs, stack_base_of, registered}
use Rattle.linked_starts.specs.Start.{IsStart}
use Rattle.linked_starts.specs.Linked.{Kept, AreClosed, Linked}
use Rattle.linked_starts.proofs.Found.{main_there}
use Rattle.linked_starts.proofs.StartHeld.{held_once}

pub main_kept : (parts : List PartSeen) (main : Exported) → AreClosed parts → main_of parts ≡ Some main
    → Kept main.part
main_kept parts main closed is = let k = main_there parts main is in closed.kept k.0 main.part k.1

regs_are : (parts : List PartSeen) (size : ℕ) (main : Exported) (s : State Word) (stack : Span)
    → s.regs ≡ zero_regs (λ w. w)
    → stack ≡ record { base = stack_base_of parts; end = stack_base_of parts + size - 1 }
    → (registered s main stack).regs ≡ start_regs parts size main
unfolding start_regs
regs_are parts size main s stack zero ends =
    ap (λ (r : Regs Word). (registered (record s { regs = r }) main stack).regs) zero
    ∙ ap (λ (x : Span). (registered (record s { regs = zero_regs (λ w. w) }) main x).regs) ends

pub started : (parts : List PartSeen) (size : ℕ) (main : Exported) (made new : Run) (stack : Span)
    → main_of parts ≡ Some main
    → ((a : ℕ) → cell made.maps.cells a ≡ start_cell parts size a) → made.maps.regs ≡ zero_regs (λ w. w)
    → AreSpansOf parts size made.maps.spans → (made.count ≡ 0) × (made.end ≡ None)
    → stack ≡ record { base = stack_base_of parts; end = stack_base_of parts + size - 1 }
    → new ≡ record made { maps = registered made.maps main stack } → IsStart parts size new
started parts size main made new stack is cells zero spans fresh ends set = record {
  main = main;
  main_is = is;
  regs = ap (λ (r : Run). r.maps.regs) set ∙ regs_are parts size main made.maps stack zero ends;
  cells = λ a. ap (λ (r : Run). cell r.maps.cells a) set ∙ cells a;
  spans = (let P : List Span → Type 0 =
      λ ss. AreSpansOf parts size ss in subst P (sym (ap (λ (r : Run). r.maps.spans) set)) spans);
  count = ap (λ (r : Run). r.count) set ∙ fresh.0;
  end = ap (λ (r : Run). r.end) set ∙ fresh.1;
}

pub started_once : (parts : List PartSeen) (size : ℕ) (s : Run) → Linked parts size → IsStart parts size s
    → HeldOnce (λ w. w) (regions_of parts size) s.maps
started_once parts size s linked start =
    held_once parts size s.maps linked
    (record { main = start.main; main_is = start.main_is; regs = start.regs; cells = start.cells })
