use Rattle.std.proofs.Common.{◌+◌, arith}
use Rattle.std.proofs.lemmas.Grind.{common_steps}
use Rattle.proc_language.specs.View.{args_of}
use Rattle.proc_names.proofs.NeedLemmas.{args_capped}
use Rattle.proc_names.proofs.need.+depth.Goals as goal

pub args_depth-returns-in-Some-Proc-default : goal.args_depth-returns-in-Some-Proc-default
args_depth-returns-in-Some-Proc-default t c =
    let rest = c.in-Some-Proc-default.rest.now in
    let h = args_capped (c.args.from + 2) (args_of rest) in
    grind (arith, common_steps, h)
