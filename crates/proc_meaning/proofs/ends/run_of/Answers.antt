use Rattle.std.proofs.Common.{[], sym, ap, ◌∙◌, pos, option_map}
use Rattle.proc_program.specs.StepView.{block_of}
use Rattle.proc_semantics.specs.declared.value.Activation.{Activation}
use Rattle.proc_semantics.specs.Values.{taken}
use Rattle.proc_semantics.specs.Meaning.{block, finish, body_of, with_place}
use Rattle.proc_semantics.specs.Whole.{whole}
use Rattle.proc_meaning.proofs.ends.run_of.Goals as goal

pub returns-in_default : goal.returns-in_default
returns-in_default c world k st =
    let home = c.args.home in let p = c.args.proc.now in let rs = c.args.registers.now in
    ap (λ o. with_place o (λ left. body_of world (whole world) home left p (taken [] p.callbacks rs) k st))
    (sym c.enough.ensures ∙ c.in_default.is)

pub returns-in_default-2 : goal.returns-in_default-2
returns-in_default-2 c world k st =
    let home = c.args.home in let p = c.args.proc.now in let rs = c.args.registers.now in
    ap (λ o. with_place o (λ left. body_of world (whole world) home left p (taken [] p.callbacks rs) k st))
    (sym c.enough.ensures ∙ c.in-Some.is)
    ∙ ap (λ o. body_of world (whole world) home c.in-Some.words p o k st)
    (sym (c.in_ok-env.ensures ∙ ap (λ l. taken [] l rs) c.as_slice.ensures)
    ∙ ap (option_map (λ v. v.items)) c.in_default-2.is)

pub returns : goal.returns
returns c world k st =
    let home = c.args.home in let p = c.args.proc.now in let rs = c.args.registers.now in
    let f : Activation = record { home = home; left = c.in-Some.words; need = p.need } in
    ap (λ o. with_place o (λ left. body_of world (whole world) home left p (taken [] p.callbacks rs) k st))
    (sym c.enough.ensures ∙ c.in-Some.is)
    ∙ ap (λ o. body_of world (whole world) home c.in-Some.words p o k st)
    (sym (c.in_ok-env.ensures ∙ ap (λ l. taken [] l rs) c.as_slice.ensures)
    ∙ ap (option_map (λ v. v.items)) c.in-Some-2.is)
    ∙ ap (λ e. block world (whole world) f (block_of p.body) (finish world p.need k)
    (λ env. finish world p.need k (pos 0)) e st) (sym c.in_ok-env-2.ensures)
