use Rattle.std.specs.Prelude.{if◌then◌else◌}
use Rattle.std.proofs.Common.{sym, ap, ap₂, ◌∙◌}
use Rattle.proc_program.specs.StepView.{step_of, block_of}
use Rattle.proc_semantics.specs.Values.{is_zero}
use Rattle.proc_semantics.specs.Told.{tick}
use Rattle.proc_semantics.specs.Meaning.{expr, stmt, block}
use Rattle.proc_semantics.specs.Whole.{whole}
use Rattle.proc_meaning.specs.Rest.{after, back}
use Rattle.proc_semantics.proofs.Offers.{recursive}
use Rattle.proc_meaning.proofs.steps.begun.Goals as goal

pub returns-in-Set : goal.returns-in-Set
returns-in-Set c world r ws st =
    let f = r.frame in let env = r.env.items in
    ap (λ s. stmt world (whole world) f s (back world ws f) (after world ws f) env st)
    (sym c.s.view_is ∙ ap step_of c.in-Set.is)

pub returns-in-SetAt : goal.returns-in-SetAt
returns-in-SetAt c world r ws st =
    let f = r.frame in let env = r.env.items in
    ap (λ s. stmt world (whole world) f s (back world ws f) (after world ws f) env st)
    (sym c.s.view_is ∙ ap step_of c.in-SetAt.is)

pub returns-in-Do : goal.returns-in-Do
returns-in-Do c world r ws st =
    let f = r.frame in let env = r.env.items in
    ap (λ s. stmt world (whole world) f s (back world ws f) (after world ws f) env st)
    (sym c.s.view_is ∙ ap step_of c.in-Do.is)

pub returns-in-If : goal.returns-in-If
returns-in-If c world r ws st =
    let f = r.frame in let env = r.env.items in
    ap (λ s. stmt world (whole world) f s (back world ws f) (after world ws f) env st)
    (sym c.s.view_is ∙ ap step_of c.in-If.is)
    ∙ ap₂
    (λ a b. tick (expr world (whole world) f env c.in-If.c
    (λ v. if is_zero v then block world (whole world) f (block_of b) (back world ws f)
    (after world ws f) env else block world (whole world) f (block_of a) (back world ws f)
    (after world ws f) env) st)) (sym c.as_slice.ensures) (sym c.as_slice-in-If.ensures)

pub returns-in-While : goal.returns-in-While
returns-in-While c world r ws st =
    let f = r.frame in let env = r.env.items in
    ap (λ s. stmt world (whole world) f s (back world ws f) (after world ws f) env st)
    (sym c.s.view_is ∙ ap step_of c.in-While.is)
    ∙ (recursive world).turns f c.in-While.c (block_of c.in-While.b) (back world ws f)
    (after world ws f) env st
    ∙ ap
    (λ b. tick (expr world (whole world) f env c.in-While.c
    (λ v. if is_zero v then after world ws f env else block world (whole world) f (block_of b)
    (back world ws f) ((whole world).turn f c.in-While.c (block_of b) (back world ws f)
    (after world ws f)) env) st)) (sym c.as_slice-in-While.ensures)

pub returns-in-Return : goal.returns-in-Return
returns-in-Return c world r ws st =
    let f = r.frame in let env = r.env.items in
    ap (λ s. stmt world (whole world) f s (back world ws f) (after world ws f) env st)
    (sym c.s.view_is ∙ ap step_of c.in-Return.is)

pub returns-in-Halt : goal.returns-in-Halt
returns-in-Halt c world r ws st =
    let f = r.frame in let env = r.env.items in
    ap (λ s. stmt world (whole world) f s (back world ws f) (after world ws f) env st)
    (sym c.s.view_is ∙ ap step_of c.in-Halt.is)
