use Rattle.std.proofs.Common.{List, sym, subst}
use Rattle.std.proofs.lemmas.List.{nil_from_length}
use Rattle.proc_program.specs.declared.program.ArgExp.{ArgExp}
use Rattle.proc_program.specs.View.{args_of}
use Rattle.proc_templates.specs.Templates.{load_args}
use Rattle.proc_templates.specs.Sums.{loads_words}
use Rattle.proc_compiler.specs.Drafts.{Emits}
use Rattle.proc_compiler.proofs.Emitted.{nothing}
use Rattle.proc_compiler.proofs.exprs.+loads.Goals as goal

pub returns-in-None : goal.returns-in-None
returns-in-None t c =
    let d = c.args.draft.now in
    let f = c.args.f in
    subst (λ (args : List ArgExp). Emits (load_args f c.args.slot c.args.from (args_of args))
    (loads_words (args_of args)) 0 d d)
    (sym (nil_from_length c.args.args.now c.in-None.ensures.cases)) (nothing d)
