-- The start of the trusted part and the teller.
use Rattle.std.proofs.Common.{◌≡◌, ℕ, ◌≤◌, true, false, List, [], ◌∷◌, map, Some, None, refl, sym, ap, ◌∙◌}
use Rattle.std.proofs.Common.{arith, subst, inl, inr, is_some, IsSome}
use Rattle.std.specs.Prelude.{IsPermutation}
use Rattle.std.proofs.lemmas.Bool.{cases_eq}
use Rattle.std.proofs.lemmas.List.Sorted.{IsPermutation-cons, IsPermutation-middle}
use Rattle.lcm_isa.specs.Numbers.{number_of}
use Rattle.lcm_machine.specs.declared.cells.Span.{Span}
use Rattle.lcm_machine.specs.Cells.{cell}
use Rattle.lcm_machine.specs.Spans.{AreSpans}
use Rattle.lcm_machine.proofs.Offers.{bases_rise}
use Rattle.call_sequence.specs.Sequences.{call_code, return_code, entry_code}
use Rattle.linked_starts.specs.declared.owners.Owner.{Owner}
use Rattle.linked_starts.specs.declared.owners.Entry.{Entry}
use Rattle.linked_starts.specs.Linked.{Linked}
use Rattle.linked_starts.specs.LinkedStarts.{IsLinkedStart}
use Rattle.linked_starts.specs.Owners.{AreOwners, owner_of}
use Rattle.linked_starts.specs.Regions.{regions_of, region_span}
use Rattle.linked_starts.specs.Start.{Exported, main_of, start_cell, start_regs, part_word, IsStart}
use Rattle.linked_starts.specs.Started.{StartSeen, Starts}
use Rattle.linked_starts.proofs.Offers.{are_linked, caller, cells_filled, filled, owners_are, site_at}
use Rattle.linked_starts.proofs.Offers.{site_of, sites_are}
use Rattle.authority_report.specs.Entered.{IsLinked}
use Rattle.law_instances.specs.Blind.{InData}
use Rattle.law_instances.proofs.Teller.{teller, first, parts, each, keeps, has_room}

abbrev pub main : Exported
main = record {
  part = first;
  export = record { name = 109 ∷ 97 ∷ 105 ∷ 110 ∷ []; offset = 0; shared = true };
}

-- the regions: the trusted part's code and data, the teller's, and the stack
abbrev its_code : Span
its_code = record { base = 1; end = 52 }

abbrev its_data : Span
its_data = record { base = 74; end = 75 }

abbrev own_code : Span
own_code = record { base = 77; end = 84 }

abbrev own_data : Span
own_data = record { base = 54; end = 56 }

abbrev stack : Span
stack = record { base = 87; end = 90 }

-- in ascending order
abbrev pub spans : List Span
spans = its_code ∷ own_data ∷ its_data ∷ own_code ∷ stack ∷ []

-- whose they are
abbrev pub secret : Owner
secret = record {
  part = 0;
  name = 116 ∷ [];
  trusted = true;
  code = its_code;
  data_span = its_data;
  closure = 10;
  seals = record { base = 12; count = 1 };
  entries = record { name = 109 ∷ 97 ∷ 105 ∷ 110 ∷ []; at = 1 } ∷ [];
  calls = record { part = 117 ∷ []; name = 102 ∷ []; at = 74 } ∷ [];
}

abbrev pub entry : Entry
entry = record { name = 102 ∷ []; at = 77 }

abbrev pub owner : Owner
owner = record {
  part = 1;
  name = 117 ∷ [];
  trusted = false;
  code = own_code;
  data_span = own_data;
  closure = 30;
  seals = record { base = 0; count = 0 };
  entries = entry ∷ [];
  calls = record { part = 116 ∷ []; name = 109 ∷ 97 ∷ 105 ∷ 110 ∷ []; at = 55 } ∷ [];
}

abbrev pub start : StartSeen
start = record {
  state = record {
    maps = record
        { regs = start_regs parts 4 main; cells = filled (start_cell parts 4) 1048576; spans = spans };
    count = 0;
    end = None;
  };
  sites = site_of caller site_at ∷ [];
  owners = secret ∷ owner ∷ [];
  stack = stack;
}

made : Linked parts 4
made = are_linked parts 4 each keeps

pub cells_are : (a : ℕ) → cell start.state.maps.cells a ≡ start_cell parts 4 a
cells_are = cells_filled parts 4 made

same_spans : IsPermutation (map region_span (regions_of parts 4)) spans
unfolding regions_of number_of entry_code call_code return_code
same_spans =
    IsPermutation-cons its_code (its_data ∷ own_code ∷ own_data ∷ stack ∷ [])
    (own_data ∷ its_data ∷ own_code ∷ stack ∷ [])
    (IsPermutation-middle (its_data ∷ own_code ∷ []) own_data (stack ∷ []))

spans_rise : AreSpans 0 spans
spans_rise = (
  omega arith,
  omega arith,
  omega arith,
  (
    omega arith,
    omega arith,
    omega arith,
    (
      omega arith,
      omega arith,
      omega arith,
      (omega arith, omega arith, omega arith, (omega arith, omega arith, omega arith, tt)),
    ),
  ),
)

main_found : main_of parts ≡ Some main
unfolding number_of entry_code call_code return_code
main_found = refl

is_start : IsStart parts 4 start.state
is_start = record {
  main = main;
  main_is = main_found;
  regs = refl;
  cells = cells_are;
  spans = record { same = same_spans; ascend = bases_rise 0 spans spans_rise };
  count = refl;
  end = refl;
}

owners : AreOwners parts (secret ∷ owner ∷ [])
unfolding owner_of entry_code call_code return_code
owners = owners_are caller teller (omega arith)

starts : Starts parts 4 start
starts = record {
  state = is_start;
  sites = sites_are caller teller site_at refl;
  owners = owners;
  stack = refl;
}

pub is_linked_start : IsLinkedStart parts 4 start
is_linked_start = record { accepted = each; room = has_room; rules = keeps; starts = starts }

pub is_linked : IsLinked start
is_linked = record { parts = parts; size = 4; accepted = each; rules = keeps; starts = starts }

-- the trusted part's data has cells
data_known : (a : ℕ) → 74 ≤ a → a ≤ 75 → is_some (start_cell parts 4 a) ≡ true
unfolding start_cell part_word entry_code call_code return_code
data_known a low high = elim (cases_eq a 74) as (λ _. is_some (start_cell parts 4 a) ≡ true) [
  | inl e ↦ subst (λ x. is_some (start_cell parts 4 x) ≡ true) (sym e) refl
  | inr ne ↦
      (let e : 75 ≡ a = omega (arith, low, high, ne) in
      subst (λ x. is_some (start_cell parts 4 x) ≡ true) e refl)
]

pub data_there : (a : ℕ) → InData secret a → IsSome (cell start.state.maps.cells a)
data_there a (low, high) = ap is_some (cells_are a) ∙ data_known a low high
