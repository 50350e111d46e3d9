-- The start of the instance.
use Rattle.std.proofs.Common.{◌≡◌, ℕ, zero, suc, true, List, [], ◌∷◌, map}
use Rattle.std.proofs.Common.{Some, None, refl, sym, arith, subst}
use Rattle.lcm_isa.specs.Numbers.{number_of}
use Rattle.call_sequence.specs.Sequences.{call_code, return_code, entry_code}
use Rattle.std.proofs.lemmas.List.Sorted.{IsPermutation-refl}
use Rattle.lcm_machine.specs.declared.cells.Span.{Span}
use Rattle.lcm_machine.specs.Cells.{cell}
use Rattle.lcm_machine.proofs.Offers.{bases_rise}
use Rattle.lcm_machine.specs.Spans.{AreSpans}
use Rattle.linked_starts.specs.Links.{l10}
use Rattle.linked_starts.specs.Pairs.{NoneIsBroken, BrokenIn}
use Rattle.linked_starts.specs.Regions.{regions_of, region_span}
use Rattle.linked_starts.specs.Start.{Exported, main_of, start_cell, start_regs, IsStart}
use Rattle.linked_starts.specs.Started.{StartSeen, Starts}
use Rattle.linked_starts.specs.Linked.{Linked}
use Rattle.linked_starts.proofs.LinksKept.{are_linked}
use Rattle.linked_starts.proofs.ExampleParts.{caller, other, pair, each, keeps, site_at}
use Rattle.linked_starts.proofs.PairStart.{filled, cells_filled, site_of, sites_are, owners_of, owners_are}

-- ---- the start

abbrev pub main : Exported
main = record {
  part = record { component = caller; trusted = true };
  export =
      record { name = 109 ∷ 97 ∷ 105 ∷ 110 ∷ []; offset = 0; shared = true };
}

abbrev pub spans : List Span
spans = map region_span (regions_of pair 4)

abbrev pub start : StartSeen
start = record {
  state = record {
    maps = record
        { regs = start_regs pair 4 main; cells = filled (start_cell pair 4) 1048576; spans = spans };
    count = 0;
    end = None;
  };
  sites = site_of caller site_at ∷ [];
  owners = owners_of caller other;
  stack = record { base = 87; end = 90 };
}

made : Linked pair 4
made = are_linked pair 4 each keeps

pub cells_are : (a : ℕ) → cell (filled (start_cell pair 4) 1048576) a ≡ start_cell pair 4 a
cells_are = cells_filled pair 4 made

-- the regions stand in ascending order already
spans_rise : AreSpans 0 spans
unfolding regions_of number_of entry_code call_code return_code
spans_rise = (
  omega arith,
  omega arith,
  omega arith,
  (
    omega arith,
    omega arith,
    omega arith,
    (
      omega arith,
      omega arith,
      omega arith,
      (
        omega arith,
        omega arith,
        omega arith,
        (omega arith, omega arith, omega arith, (omega arith, omega arith, omega arith, tt)),
      ),
    ),
  ),
)

main_found : main_of pair ≡ Some main
unfolding number_of entry_code call_code return_code
main_found = refl

is_start : IsStart pair 4 start.state
is_start = record {
  main = main;
  main_is = main_found;
  regs = refl;
  cells = cells_are;
  spans = record { same = IsPermutation-refl spans; ascend = bases_rise 0 spans spans_rise };
  count = refl;
  end = refl;
}

pub starts : Starts pair 4 start
starts = record {
  state = is_start;
  sites = sites_are caller other site_at refl;
  owners = owners_are caller other (omega arith);
  stack = refl;
}

-- neither of them is movable
pub has_room : NoneIsBroken (l10 pair ∷ [])
unfolding l10
has_room zero p i t e b = cc
has_room (suc zero) zero i t e b = let is : l10 pair ≡ t = cc in let here =
    subst (λ u. BrokenIn u 0 i) (sym is) b in absurd (omega (arith, here.1.0))
has_room (suc zero) (suc zero) i t e b = let is : l10 pair ≡ t = cc in let here =
    subst (λ u. BrokenIn u 1 i) (sym is) b in absurd (omega (arith, here.1.0))
has_room (suc zero) (suc (suc p)) i t e b = let is : l10 pair ≡ t = cc in let here =
    subst (λ u. BrokenIn u (suc (suc p)) i) (sym is) b in absurd (omega (arith, here.0))
has_room (suc (suc n)) p i t e b = cc
