use Rattle.std.proofs.Common.{◌≡◌, ◌++◌, take}
use Rattle.std.specs.List.{flat_map}
use Rattle.cap_words.specs.Text.{field_text}
use Rattle.disassembler.specs.Disassembled.{kind_fields}
use Rattle.disassembler.proofs.tables.push_kinds.Given as goal

abbrev pub invariant-loop-kind : goal.invariant-loop-kind
invariant-loop-kind l =
    l.text.items ≡ l.fn.text.items ++ flat_map field_text (flat_map kind_fields (take l.kind-index l.kinds))
