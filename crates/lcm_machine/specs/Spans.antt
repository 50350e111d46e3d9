-- Which addresses get cells, and what a new machine holds.
use Rattle.std.specs.Prelude.{◌≡◌, ◌⊎◌, ℕ, ◌+◌, ◌-◌, ◌≤◌, Bool, ◌&&◌, nat_le, List, [], ◌∷◌, replicate}
use Rattle.std.specs.Prelude.{slice_get, Option, Some, None, IsSomeAnd, if◌then◌else◌}
use Rattle.std.specs.List.{list_any}
use Rattle.cap_words.specs.declared.TheConstants.{LAST_PLACE}
use Rattle.cap_words.specs.declared.Word.{Word}
use Rattle.cap_words.specs.Linear.{zero_word}
use Rattle.lcm_machine.specs.declared.cells.Span.{Span}
use Rattle.lcm_machine.specs.declared.cells.Spot.{Spot}
use Rattle.lcm_machine.specs.declared.cells.Near.{Near}
use Rattle.lcm_machine.specs.Maps.{Regs}

abbrev pub in_span : ℕ → Span → Bool
in_span a s = nat_le s.base a && nat_le a s.end

abbrev pub in_spans : ℕ → List Span → Bool
in_spans a spans = list_any (in_span a) spans

-- spans of at least one address each, within the address space, ascending and disjoint, from an address on
abbrev pub AreSpans : ℕ → List Span → Type 0
AreSpans at [] = Unit {0}
AreSpans at (s ∷ ss) =
    (at ≤ s.base) × (s.base ≤ s.end) × (s.end ≤ LAST_PLACE) × AreSpans (s.end + 1) ss

-- what an address of a new memory holds: integer 0 in the spans, and no cell elsewhere
abbrev pub slot : {W : Type 0} → (Word → W) → List Span → ℕ → Option W
slot plain spans a = if in_spans a spans then Some (zero_word plain) else None

-- the slots of a span of a new memory
abbrev pub zero_part : {W : Type 0} → (Word → W) → Span → List (Option W)
zero_part plain s = replicate (s.end + 1 - s.base) (Some (zero_word plain))

-- an address stands in the span of this number, so many addresses above its base
abbrev pub StandsAt : List Span → Spot → ℕ → Type 0
StandsAt spans spot a =
    IsSomeAnd (slice_get spans spot.part) (λ s. (s.base + spot.slot ≡ a) × (a ≤ s.end))

-- one of the spans, as it is remembered; or none, with a base and a count of 0
abbrev pub IsNear : List Span → Near → Type 0
IsNear spans near =
    ((near.base ≡ 0) × (near.count ≡ 0))
    ⊎ IsSomeAnd (slice_get spans near.part) (λ s. (near.base ≡ s.base) × (near.base + near.count ≡ s.end + 1))

-- sixteen times the same word
abbrev pub sixteen : {W : Type 0} → W → Regs W
sixteen w = record {
  pc = w;
  rcode = w;
  rdata = w;
  stk = w;
  dat = w;
  t1 = w;
  t2 = w;
  c1 = w;
  c2 = w;
  a0 = w;
  a1 = w;
  a2 = w;
  a3 = w;
  g0 = w;
  g1 = w;
  g2 = w;
}

-- integer 0 in each register
abbrev pub zero_regs : {W : Type 0} → (Word → W) → Regs W
zero_regs plain = sixteen (zero_word plain)
