-- Addresses at which no site ends.
use Rattle.std.specs.Prelude.{◌≡◌, ℕ, zero, suc, ◌+◌, ◌-◌, ◌^◌, ◌<◌, ◌≤◌, nat_lt, Bool, true, false}
use Rattle.std.specs.Prelude.{if◌then◌else◌, ℤ, pos, negsuc, List, length, slice_index_or}
use Rattle.std.specs.List.{All}
use Rattle.call_sequence.specs.declared.TheConstants.{CALL_WORDS, RETURN_WORDS}
use Rattle.lcm_machine.specs.Run.{Run, plain}
use Rattle.lcm_machine.specs.Within.{lies, within}
use Rattle.linked_starts.specs.declared.owners.Site.{Site}
use Rattle.trace_tool.specs.declared.gap.Gap.{Gap}
use Rattle.run_lines.specs.Layout.{no_site}

-- the address of a site's last word
abbrev pub last_word : Site → ℕ
last_word s = s.at + (CALL_WORDS + RETURN_WORDS - 1)

-- whether an address is in the gap
abbrev pub has : Gap → ℤ → Bool
has g z = lies g.from g.to z

-- no site ends there
abbrev pub IsGap : List Site → Gap → Type 0
IsGap sites g = All (λ s. has g (pos (last_word s)) ≡ false) sites

-- so many instructions of a machine stand in the gap, and none is an `xjmp`
abbrev pub AreWithin : Gap → Run → ℕ → Type 0
AreWithin g r n = (k : ℕ) → k < n → within g.from g.to (plain k r) ≡ true

-- around an address, or right after it
abbrev pub IsAround : ℕ → Gap → Type 0
IsAround a g = (g.from ≤ a + 1) × (a < g.to)

-- pc's address, and 0 where it has none
abbrev pub gap_address : ℤ → ℕ
gap_address (pos a) = a
gap_address (negsuc n) = 0

-- ---- between two sites

-- the address after the site before a place
abbrev pub behind : List Site → ℕ → ℕ
behind sites zero = 0
behind sites (suc k) = last_word (slice_index_or sites k no_site) + 1

-- the last word of the one there
abbrev pub ahead : List Site → ℕ → ℕ
ahead sites k = if nat_lt k (length sites) then last_word (slice_index_or sites k no_site) else 2 ^ 64 - 1
