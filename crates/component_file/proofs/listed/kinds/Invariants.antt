use Rattle.std.proofs.Common.{◌≡◌, ◌-◌, take, length, None}
use Rattle.readers.proofs.Offers.{with_front}
use Rattle.component_file.specs.Reading.{next_items, field, next_kind}
use Rattle.component_file.proofs.listed.kinds.Given as goal

abbrev pub invariant-loop-kind : goal.invariant-loop-kind
invariant-loop-kind l =
    (length l.kind-items ≡ 15)
    × (with_front (take l.kind-index l.kind-items)
    (next_items (λ _. field next_kind) (15 - l.kind-index) None l.bytes) ≡ next_items
    (λ _. field next_kind) 15 None l.fn.bytes)
