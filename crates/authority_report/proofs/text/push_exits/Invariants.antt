use Rattle.std.proofs.Common.{◌≡◌, ◌++◌, take}
use Rattle.std.specs.List.{flat_map}
use Rattle.authority_report.specs.Text.{exit_line}
use Rattle.authority_report.proofs.text.push_exits.Given as goal

abbrev pub invariant-loop-call : goal.invariant-loop-call
invariant-loop-call l = l.text.items ≡ l.fn.text.items ++ flat_map (exit_line l.owner)
    (take l.call-index l.owner.calls)
