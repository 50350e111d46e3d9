use Rattle.std.proofs.Common.{◌≡◌, ◌++◌, map, take}
use Rattle.proc_templates.specs.Compiled.{row_at_label}
use Rattle.proc_compiler.proofs.lists.push_rows.Given as goal

abbrev pub invariant-loop-label : goal.invariant-loop-label
invariant-loop-label l = l.rows.items ≡ l.fn.rows.items ++ map row_at_label (take l.label-index l.labels)
