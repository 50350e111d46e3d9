-- The rules L, which parts and a stack size keep together. docs/RULES.md has them as a table.
use Rattle.std.specs.Prelude.{ℕ, zero, suc, ◌+◌, ◌==◌, ◌&&◌, ◌||◌, nat_le, nat_lt, Bool, false, not, List, []}
use Rattle.std.specs.Prelude.{◌∷◌, length, take, sum_by, slice_index_or, Option, Some, None, is_none}
use Rattle.std.specs.Prelude.{if◌then◌else◌}
use Rattle.std.specs.List.{list_any}
use Rattle.cap_words.specs.declared.TheConstants.{LAST_PLACE}
use Rattle.component_file.specs.declared.TheConstants.{MOST_SITES}
use Rattle.seal_space.specs.Seals.{has_seal, are_disjoint}
use Rattle.lcm_machine.specs.declared.cells.Span.{Span}
use Rattle.component_check.specs.Places.{Test, plainly, each_of}
use Rattle.component_check.specs.declared.rule.Group.TheVariants.{L}
use Rattle.linked_starts.specs.declared.TheConstants.{MOST_PARTS}
use Rattle.linked_starts.specs.declared.pairs.PartPlace.{PartPlace}
use Rattle.linked_starts.specs.declared.fault.RuleAt.{RuleAt}
use Rattle.component_file.specs.declared.component.ComponentFields.{ComponentFields}
use Rattle.linked_starts.specs.Parts.{PartSeen}
use Rattle.linked_starts.specs.Placing.{areas_end_late, seals_end_late, points_too_far}
use Rattle.linked_starts.specs.Regions.{code_span, data_span, linear_span, stack_span, is_stack_size}
use Rattle.linked_starts.specs.Start.{Exported, same_name, imported, is_main, stack_base_of}
use Rattle.linked_starts.specs.Pairs.{PairTest, never, once, at_each, each_part, each_part_then}

-- ---- L1: regions don't overlap, nor touch

-- no address is between the two, or they share one
abbrev pub near : Option Span → Option Span → Bool
near None b = false
near (Some a) None = false
near (Some a) (Some b) = nat_le a.base (b.end + 1) && nat_le b.base (a.end + 1)

-- 0 code, 1 data, 2 linear area
abbrev pub part_spans : PartSeen → List (Option Span)
part_spans p = code_span p ∷ data_span p ∷ linear_span p ∷ []

abbrev pub near_part : Option Span → PartSeen → Bool
near_part s q = list_any (near s) (part_spans q)

-- the parts before and the spans before it in its own part are those before a part's span
abbrev pub near_before : List PartSeen → List (Option Span) → Option Span → Bool
near_before parts own s = list_any (near_part s) parts || list_any (near s) own

unfoldable pub l1 : List PartSeen → ℕ → PairTest
l1 parts size = each_part_then parts
    (λ i p. let own =
    part_spans p in plainly 3 (λ k. near_before (take i parts) (take k own) (slice_index_or own k None)))
    (once (near_before parts [] (stack_span parts size)) 0)

-- ---- L2: no seal is a closure seal or a return seal of two parts

abbrev pub share_seals : PartSeen → PartSeen → Bool
share_seals p q =
    let c = p.component in
    let d = q.component in
    (c.closure == d.closure) || has_seal c.seals d.closure || has_seal d.seals c.closure
    || not (are_disjoint c.seals d.seals)

unfoldable pub l2 : List PartSeen → PairTest
l2 parts = each_part parts (λ i p. at_each (take i parts) (share_seals p))

-- ---- L3: no two parts have one name

unfoldable pub l3 : List PartSeen → PairTest
l3 parts = each_part parts (λ i p. at_each (take i parts) (λ q. same_name p.component.name q.component.name))

-- ---- L4: what an import names is there

unfoldable pub l4 : List PartSeen → PairTest
l4 parts = each_part parts (λ i p. at_each p.component.imports (λ x. is_none (imported parts x)))

-- ---- L5: and may be imported: it is shared, or the importing part's own

abbrev pub is_private : PartSeen → Option Exported → Bool
is_private p None = false
is_private p (Some x) = not (x.export.shared || same_name x.part.component.name p.component.name)

unfoldable pub l5 : List PartSeen → PairTest
l5 parts = each_part parts (λ i p. at_each p.component.imports (λ x. is_private p (imported parts x)))

-- ---- L6: exactly one part has a shared export main

abbrev pub has_main : PartSeen → Bool
has_main p = list_any is_main p.component.exports

unfoldable pub l6 : List PartSeen → PairTest
l6 parts = each_part_then parts
    (λ i p. at_each p.component.exports (λ e. is_main e && list_any has_main (take i parts)))
    (once (not (list_any has_main parts)) 0)

-- ---- L7: the stack bases are equal

unfoldable pub l7 : List PartSeen → PairTest
l7 parts =
    each_part parts
    (λ i p. let base = p.component.stack_base in once (not (base == stack_base_of parts)) base)

-- ---- L8: the stack has 2 to 65,536 words, and ends at or below 1,048,575

unfoldable pub l8 : List PartSeen → ℕ → PairTest
l8 parts size = each_part_then parts (λ i p. never)
    (once (not (is_stack_size size && nat_le (stack_base_of parts + size) (LAST_PLACE + 1))) size)

-- ---- L9: there are at most 16 parts, and trusted ones have at most 4,096 sites together

abbrev pub are_few : List PartSeen → Bool
are_few parts = nat_le (length parts) MOST_PARTS

abbrev pub trusted_sites : PartSeen → ℕ
trusted_sites p = if p.trusted then length p.component.sites else 0

-- those of the parts up to one, that one included
abbrev pub sites_upto : List PartSeen → ℕ → ℕ
sites_upto parts i = sum_by trusted_sites (take (i + 1) parts)

unfoldable pub l9 : List PartSeen → PairTest
l9 parts = each_part parts (λ i p. once
    (if are_few parts then nat_lt MOST_SITES (sites_upto parts i) else i == MOST_PARTS)
    (if are_few parts then sites_upto parts i else length parts))

-- ---- L10: a movable part, where it stands, has addresses and seals that there are, and integers of the
-- machine

-- 0 addresses, 1 seals, 2 integers
abbrev pub lacks_room : ComponentFields → Test ℕ
lacks_room c = each_of (areas_end_late c ∷ seals_end_late c ∷ points_too_far c ∷ [])

abbrev pub room_test : PartSeen → Test ℕ
room_test p = if p.component.movable then lacks_room p.component else never

unfoldable pub l10 : List PartSeen → PairTest
l10 parts = each_part parts (λ i p. room_test p)

-- ---- all of them, in their order

abbrev pub rules_l : List PartSeen → ℕ → List PairTest
rules_l parts size =
    l1 parts size ∷ l2 parts ∷ l3 parts ∷ l4 parts ∷ l5 parts ∷ l6 parts ∷ l7 parts ∷ l8 parts size
    ∷ l9 parts ∷ []

-- and before them L10
abbrev pub rules_of_link : List PartSeen → ℕ → List PairTest
rules_of_link parts size = l10 parts ∷ rules_l parts size

-- the number of the rule that is tried so many-th
abbrev pub number_of : ℕ → ℕ
number_of zero = 0
number_of (suc zero) = 10
number_of (suc (suc n)) = suc n

-- the rule that is tried n-th is broken at a place in a part
abbrev pub rule_at : ℕ → PartPlace → RuleAt
rule_at n at = record { rule = record { group = L; number = number_of n }; part = at.part; place = at.place }
