use Rattle.std.proofs.Common.{◌*◌, List, length, sym, subst}
use Rattle.std.proofs.lemmas.List.{nil_from_length}
use Rattle.lcm_isa.specs.declared.Reg.{Reg}
use Rattle.proc_templates.specs.Templates.{push}
use Rattle.proc_compiler.specs.Drafts.{Emits}
use Rattle.proc_compiler.proofs.Emitted.{nothing}
use Rattle.proc_compiler.proofs.draft.Draft.+push.Goals as goal

pub returns-in-None : goal.returns-in-None
returns-in-None t c =
    let d = c.args.self.now in
    subst (λ (rs : List Reg). Emits (push rs) (2 * length rs) 0 d d)
    (sym (nil_from_length c.args.registers.now c.in-None.ensures.cases)) (nothing d)
