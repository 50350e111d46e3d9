use Rattle.std.proofs.Common.{Bool, List, sym, subst}
use Rattle.std.proofs.lemmas.List.{nil_from_length}
use Rattle.proc_templates.specs.Templates.{check_params, checks_words}
use Rattle.proc_compiler.specs.Drafts.{Emits}
use Rattle.proc_compiler.proofs.Emitted.{nothing}
use Rattle.proc_compiler.proofs.routine.+checks.Goals as goal

pub returns-in-None : goal.returns-in-None
returns-in-None t c =
    let d = c.args.draft.now in
    subst (λ (bs : List Bool). Emits (check_params c.args.from bs) (checks_words bs) 0 d d)
    (sym (nil_from_length c.args.callbacks.now c.in-None.ensures.cases)) (nothing d)
