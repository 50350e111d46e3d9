use Rattle.std.proofs.Common.{◌≡◌, subst}
use Rattle.component_file.specs.Limits.{IsComponent}
use Rattle.component_file.specs.Spelling.{spelling}
use Rattle.component_file.proofs.Lengths.{spelling_length}
use Rattle.component_file.proofs.writing.encode_component.Goals as goal

pub returns-clause-spelled : goal.returns-clause-spelled
returns-clause-spelled c = (
  subst IsComponent c.fields.ensures.same c.fields.ensures.within_limits,
  rw (← c.fields.ensures.same) c.in_ok-push_fields.ensures,
)

pub returns-clause-short : goal.returns-clause-short
returns-clause-short c =
    let spelled : c.push_fields.new.out.items ≡ spelling c.args.c.now = (returns-clause-spelled c).1 in
    rw spelled (spelling_length c.args.c.now (returns-clause-spelled c).0)
