use Rattle.run_audit.proofs.Found.{is_right}
use Rattle.run_audit.proofs.auditing.audit.Goals as goal

pub returns : goal.returns
returns c =
    let r = is_right c.answer.result c.args.text.now c.answer.ensures in
    record { exact = c.answer.ensures; found = r.found; only = r.only; fails = r.fails; first = r.first }
