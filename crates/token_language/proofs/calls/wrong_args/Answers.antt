use Rattle.std.proofs.Common.{◌+◌, sym, ◌∙◌, ap, List, drop}
use Rattle.proc_language.proofs.Offers.{drop_item}
use Rattle.proc_names.specs.Faults.{first, earlier}
use Rattle.proc_names.proofs.Offers.{earlier_assoc}
use Rattle.proc_names.specs.declared.fault.NameFault.{NameFault}
use Rattle.token_language.specs.declared.tree.TokenArg.{TokenArg}
use Rattle.token_language.specs.View.{args_of}
use Rattle.token_language.specs.TokenFaults.{wrong, arg_tokens}
use Rattle.token_language.proofs.calls.wrong_args.Goals as goal

faults : List TokenArg → List NameFault
faults args = wrong (arg_tokens (args_of args))

pub loop-arg-preserved : goal.loop-arg-preserved
unfolding faults
loop-arg-preserved c =
    let i = c.loop-arg.arg-index in
    let args = c.args.args.now in
    let rest = drop (i + 1) args in
    let found = c.loop-arg.found in
    let next = drop_item args i c.arg-item.result c.loop-arg-test.true c.arg-item.is in
    ap (λ f. earlier f (first (faults rest))) c.earlier-found.ensures
    ∙ earlier_assoc found c.wrong_arg.result (first (faults rest))
    ∙ ap (earlier found) (c.wrong_arg.ensures rest)
    ∙ ap (λ l. earlier found (first (faults l))) (sym next)
    ∙ c.loop-arg.invariant
