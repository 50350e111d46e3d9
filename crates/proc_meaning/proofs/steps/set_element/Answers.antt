use Rattle.std.proofs.Common.{rules, ◌≡◌, sym, ap, ◌∙◌, reverse, w64, to_z, of_z}
use Rattle.proc_meaning.specs.declared.work.Now.TheVariants as now
use Rattle.proc_semantics.specs.Values.{set_word}
use Rattle.proc_semantics.specs.Meaning.{element_at, with_place}
use Rattle.proc_meaning.specs.Rest.{after}
use Rattle.proc_meaning.proofs.Works.{kept}
use Rattle.proc_meaning.proofs.steps.set_element.Goals as goal

pub returns-in_default-clause-same : goal.returns-in_default-clause-same
returns-in_default-clause-same c world items =
    let r = c.args.run.now in let st = c.args.store.now.items in let i = c.args.index in
    let z : to_z w64 (of_z w64 i) ≡ i = search rules in
    ap (λ o. with_place o (λ o. after world (reverse items) r.frame r.env.items
    (set_word st r.frame.home o c.args.v)))
    (ap (element_at c.args.row) (sym z) ∙ sym c.element_at.ensures ∙ c.in_default.is)

pub returns-clause-same : goal.returns-clause-same
returns-clause-same c world items =
    let r = c.args.run.now in let st = c.args.store.now.items in let i = c.args.index in
    let v = c.args.v in
    let z : to_z w64 (of_z w64 i) ≡ i = search rules in
    let zv : to_z w64 (of_z w64 v) ≡ v = search rules in
    ap (λ o. with_place o (λ o. after world (reverse items) r.frame r.env.items
    (set_word st r.frame.home o v)))
    (ap (element_at c.args.row) (sym z) ∙ sym c.element_at.ensures ∙ c.in-Some.is)
    ∙ ap (after world (reverse items) r.frame r.env.items)
    (sym (c.set_word.ensures ∙ ap (set_word st r.frame.home c.in-Some.o) zv))
    ∙ sym (kept world now.Next items r c.set_word.new.store.items)
