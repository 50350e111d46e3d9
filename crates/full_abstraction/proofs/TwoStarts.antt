-- The starts of both.
use Rattle.std.proofs.Common.{◌≡◌, ℕ, zero, suc, Bool, true, List, [], ◌∷◌, map, Some, None, refl, sym, subst}
use Rattle.std.proofs.Common.{arith, rules}
use Rattle.std.specs.Prelude.{slice_get}
use Rattle.std.proofs.lemmas.List.Sorted.{IsPermutation-refl}
use Rattle.lcm_machine.specs.declared.cells.Span.{Span}
use Rattle.lcm_machine.specs.Cells.{cell}
use Rattle.lcm_machine.specs.Spans.{AreSpans}
use Rattle.lcm_machine.proofs.Offers.{bases_rise}
use Rattle.call_sequence.specs.Sequences.{entry_code}
use Rattle.linked_starts.specs.declared.owners.Site.{Site}
use Rattle.linked_starts.specs.Parts.{PartSeen}
use Rattle.linked_starts.specs.Owners.{IsSite, AreSites}
use Rattle.linked_starts.specs.Regions.{regions_of, region_span}
use Rattle.linked_starts.specs.Start.{Exported, main_of, start_cell, start_regs, IsStart}
use Rattle.linked_starts.specs.Started.{StartSeen, Starts}
use Rattle.linked_starts.specs.LinkedStarts.{IsLinkedStart}
use Rattle.linked_starts.specs.Linked.{Linked}
use Rattle.linked_starts.proofs.Offers.{are_linked, filled, cells_filled, other, owners_of, owners_are}
use Rattle.full_abstraction.proofs.TwoParts.{entered, trusted_one, adversary, both, each, keeps, has_room}

abbrev pub main : Bool → Exported
main b = record {
  part = trusted_one b;
  export = record { name = 109 ∷ 97 ∷ 105 ∷ 110 ∷ []; offset = 0; shared = true };
}

abbrev pub spans : Bool → List Span
spans b = map region_span (regions_of (both b) 4)

abbrev pub start : Bool → StartSeen
start b = record {
  state = record {
    maps = record {
      regs = start_regs (both b) 4 (main b);
      cells = filled (start_cell (both b) 4) 1048576;
      spans = spans b;
    };
    count = 0;
    end = None;
  };
  sites = [];
  owners = owners_of (entered b) other;
  stack = record { base = 87; end = 90 };
}

made : (b : Bool) → Linked (both b) 4
made b = are_linked (both b) 4 (each b) (keeps b)

pub cells_are : (b : Bool) (a : ℕ) → cell (filled (start_cell (both b) 4) 1048576) a ≡ start_cell (both b) 4 a
cells_are b = cells_filled (both b) 4 (made b)

-- the regions stand in ascending order already
spans_rise : (b : Bool) → AreSpans 0 (spans b)
unfolding regions_of entry_code
spans_rise b = search (rules, arith)

main_found : (b : Bool) → main_of (both b) ≡ Some (main b)
main_found b = refl

-- neither part has a site
no_site : (b : Bool) (s : Site) → IsSite (both b) s → ⊥
no_site b s of = by s.part of.of of.of_is of.offset of.offset_is
  where
    by : (k : ℕ) (p : PartSeen) → slice_get (both b) k ≡ Some p → (o : ℕ)
        → slice_get p.component.sites s.index ≡ Some o → ⊥
    by zero p at o e =
        let is : trusted_one b ≡ p = cc in
        let none : slice_get (trusted_one b).component.sites s.index ≡ Some o =
        subst (λ (q : PartSeen). slice_get q.component.sites s.index ≡ Some o) (sym is) e in cc
    by (suc zero) p at o e =
        let is : adversary ≡ p = cc in
        let none : slice_get adversary.component.sites s.index ≡ Some o =
        subst (λ (q : PartSeen). slice_get q.component.sites s.index ≡ Some o) (sym is) e in cc
    by (suc (suc k)) p at o e = cc

sites_are : (b : Bool) → AreSites (both b) []
sites_are b = record {
  ascend = λ i j d lt le. absurd (omega (arith, lt, le));
  all = λ s. (λ m. absurd (let lt = m.1 in omega (arith, lt)), λ of. absurd (no_site b s of));
}

is_start : (b : Bool) → IsStart (both b) 4 (start b).state
is_start b = record {
  main = main b;
  main_is = main_found b;
  regs = refl;
  cells = cells_are b;
  spans = record { same = IsPermutation-refl (spans b); ascend = bases_rise 0 (spans b) (spans_rise b) };
  count = refl;
  end = refl;
}

starts : (b : Bool) → Starts (both b) 4 (start b)
starts b = record {
  state = is_start b;
  sites = sites_are b;
  owners = owners_are (entered b) other (omega arith);
  stack = refl;
}

pub is_linked : (b : Bool) → IsLinkedStart (both b) 4 (start b)
is_linked b = record { accepted = each b; room = has_room b; rules = keeps b; starts = starts b }
