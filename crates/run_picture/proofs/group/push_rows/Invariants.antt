use Rattle.std.proofs.Common.{◌≡◌, ◌++◌, ◌-◌, ◌≤◌}
use Rattle.line_fields.specs.Fields.{fields}
use Rattle.run_picture.specs.Shapes.{shapes_text}
use Rattle.run_picture.specs.Groups.{rows}
use Rattle.run_picture.proofs.group.push_rows.Given as goal

abbrev pub invariant-loop-y : goal.invariant-loop-y
invariant-loop-y l = record {
  so_far : l.text.items ++ shapes_text (rows l.bytes l.x l.y l.fields)
      ≡ l.fn.text.items ++ shapes_text (rows l.bytes l.x 146 (fields l.line));
  within : l.y ≤ 230;
}

abbrev pub decreases-loop-y : goal.decreases-loop-y
decreases-loop-y l = 230 - l.y
