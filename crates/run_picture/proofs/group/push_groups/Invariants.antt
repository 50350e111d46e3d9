use Rattle.std.proofs.Common.{◌≡◌, ◌++◌, ◌+◌, drop}
use Rattle.run_picture.specs.Held.{nothing_held}
use Rattle.run_picture.specs.Groups.{groups}
use Rattle.run_picture.specs.Shapes.{groups_text}
use Rattle.run_picture.proofs.group.push_groups.Given as goal

abbrev pub invariant-loop-i : goal.invariant-loop-i
invariant-loop-i l = record {
  so_far : l.text.items ++ groups_text (groups l.page l.n l.held (drop l.i l.events))
      ≡ l.fn.text.items ++ groups_text (groups l.page 1 nothing_held l.events);
  count : l.n ≡ l.i + 1;
}
