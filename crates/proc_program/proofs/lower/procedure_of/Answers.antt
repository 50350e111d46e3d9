use Rattle.std.proofs.Common.{◌≡◌, length, map, is_some, ap, ◌∙◌, arith}
use Rattle.std.proofs.lemmas.Grind.{common_steps}
use Rattle.proc_language.specs.declared.module.Param.{Param}
use Rattle.proc_language.specs.StmtView.{block_of}
use Rattle.proc_names.specs.Need.{need}
use Rattle.proc_program.specs.Lower.{steps_of}
use Rattle.proc_program.proofs.lower.procedure_of.Goals as goal

pub returns-clause-same : goal.returns-clause-same
returns-clause-same c =
    let m = c.args.m.now in let p = c.args.p.now in
    let callbacks = c.of.ensures ∙ c.in_ok-callbacks.ensures
    ∙ ap (map (λ (q : Param). is_some q.arity)) c.as_slice.ensures in
    let words : c.in_ok-need.need ≡ need p = grind (arith, common_steps) in
    let body = c.in_ok-body.ensures.same
    ∙ ap (λ ss. steps_of m p c.args.next.now (block_of ss)) c.as_slice-2.ensures in
    λ i. record {
      name = c.in_ok-name.ensures i;
      shared = p.shared;
      callbacks = callbacks i;
      locals = length (c.as_slice-3.ensures i);
      need = words i;
      body = body i;
    }
