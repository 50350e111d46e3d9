use Rattle.component_file.proofs.Parts.{all_pieces}
use Rattle.component_file.proofs.writing.push_fields.Goals as goal

pub returns : goal.returns
returns c = rw (
  c.in_ok-push_declared.ensures,
  c.in_ok-push_calls.ensures,
  c.in_ok-push_memory.ensures,
  c.in_ok-push_head.ensures,
  c.requires.empty,
) (all_pieces c.args.fields.now)
