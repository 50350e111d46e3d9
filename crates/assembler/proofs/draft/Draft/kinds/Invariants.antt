use Rattle.std.proofs.Common.{◌≡◌, ◌-◌, take, length}
use Rattle.assembler.specs.Operands.{kinds_in}
use Rattle.assembler.proofs.KindLemmas.{with_front}
use Rattle.assembler.proofs.draft.Draft.kinds.Given as goal

abbrev pub invariant-loop-kind : goal.invariant-loop-kind
invariant-loop-kind l =
    (length l.kind-items ≡ 15)
    × (with_front (take l.kind-index l.kind-items)
    (kinds_in (15 - l.kind-index) l.self l.fields) ≡ kinds_in 15 l.fn.self l.fn.fields)
