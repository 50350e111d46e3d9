use Rattle.std.proofs.Common.{◌≡◌, ◌++◌, take}
use Rattle.std.specs.List.{flat_map}
use Rattle.authority_report.specs.Text.{seals_line}
use Rattle.authority_report.proofs.text.push_all_seals.Given as goal

abbrev pub invariant-loop-seals : goal.invariant-loop-seals
invariant-loop-seals l = l.text.items ≡ l.fn.text.items ++ flat_map seals_line
    (take l.seals-index l.ranges)
