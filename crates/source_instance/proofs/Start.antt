-- The start of the two parts, with a stack of eight words.
use Rattle.std.proofs.Common.{rules, ◌≡◌, ℕ, true, List, [], ◌∷◌, map, Some, None, refl, arith}
use Rattle.std.proofs.lemmas.List.Sorted.{IsPermutation-refl}
use Rattle.std.specs.Ordering.{nat_cmp}
use Rattle.std.specs.FinMap.{FinMap}
use Rattle.cap_words.specs.declared.Word.{Word}
use Rattle.lcm_isa.specs.Numbers.{number_of}
use Rattle.lcm_machine.specs.declared.cells.Span.{Span}
use Rattle.lcm_machine.specs.Cells.{cell}
use Rattle.lcm_machine.proofs.Offers.{bases_rise}
use Rattle.lcm_machine.specs.Spans.{AreSpans}
use Rattle.call_sequence.specs.Sequences.{call_code, return_code, entry_code}
use Rattle.linked_starts.specs.Regions.{regions_of, region_span}
use Rattle.linked_starts.specs.Start.{Exported, main_of, start_cell, start_regs, IsStart}
use Rattle.linked_starts.specs.Started.{StartSeen, Starts}
use Rattle.linked_starts.specs.Linked.{Linked}
use Rattle.linked_starts.proofs.Offers.{are_linked, filled, cells_filled, site_of, sites_are, owners_of}
use Rattle.linked_starts.proofs.Offers.{owners_are}
use Rattle.linked_starts.specs.LinkedStarts.{IsStartOf}
use Rattle.source_starts.specs.Sources.{LinkedSources}
use Rattle.source_instance.proofs.Module.{source, trusted, site_at}
use Rattle.source_instance.proofs.Parts.{adversary, second, parts, each, keeps, has_room, are_sources}

-- ---- the start

abbrev pub main : Exported
main = record {
  part = second;
  export = record { name = 109 ∷ 97 ∷ 105 ∷ 110 ∷ []; offset = 0; shared = true };
}

abbrev pub spans : List Span
spans = map region_span (regions_of parts 8)

abbrev memory : FinMap nat_cmp Word
memory = filled (start_cell parts 8) 1048576

abbrev pub start : StartSeen
start = record {
  state = record {
    maps = record { regs = start_regs parts 8 main; cells = memory; spans = spans };
    count = 0;
    end = None;
  };
  sites = site_of trusted site_at ∷ [];
  owners = owners_of trusted adversary;
  stack = record { base = 111; end = 118 };
}

made : Linked parts 8
made = are_linked parts 8 each keeps

pub cells_are : (a : ℕ) → cell memory a ≡ start_cell parts 8 a
cells_are = cells_filled parts 8 made

-- the regions stand in ascending order already
spans_rise : AreSpans 0 spans
unfolding regions_of number_of entry_code call_code return_code
spans_rise = search (rules, arith)

main_found : main_of parts ≡ Some main
unfolding number_of entry_code call_code return_code
main_found = refl

is_start : IsStart parts 8 start.state
is_start = record {
  main = main;
  main_is = main_found;
  regs = refl;
  cells = cells_are;
  spans = record { same = IsPermutation-refl spans; ascend = bases_rise 0 spans spans_rise };
  count = refl;
  end = refl;
}

pub starts : Starts parts 8 start
starts = record {
  state = is_start;
  sites = sites_are trusted adversary site_at refl;
  owners = owners_are trusted adversary (omega arith);
  stack = refl;
}

pub is_start_of : IsStartOf parts 8 start
is_start_of = record { accepted = each; room = has_room; rules = keeps; starts = starts }

abbrev pub sources : LinkedSources
sources = record {
  modules = source ∷ [];
  linked = record { link = record { parts = parts; size = 8; start = start }; is_start = is_start_of };
  are_sources = are_sources;
}
