use Rattle.std.proofs.Common.{rules, ◌≡◌, ◌∷◌, ◌++◌, sym, ap, ap₂, ◌∙◌, reverse, w64, to_z, of_z}
use Rattle.std.proofs.lemmas.Result.{IfOk-weaker}
use Rattle.proc_program.specs.View.{exp_of, args_of}
use Rattle.proc_meaning.specs.declared.work.Now.TheVariants.{Value, Args}
use Rattle.proc_meaning.specs.declared.work.Work.TheVariants.{Index}
use Rattle.proc_semantics.specs.Values.{pair_of}
use Rattle.proc_semantics.specs.Told.{tick}
use Rattle.proc_semantics.specs.Meaning.{operated, expr, args, call}
use Rattle.proc_semantics.specs.Whole.{whole}
use Rattle.proc_meaning.specs.Rest.{with_value}
use Rattle.proc_meaning.proofs.Works.{kept}
use Rattle.proc_meaning.proofs.exprs.eval.Goals as goal

pub returns-in-Number-clause-same : goal.returns-in-Number-clause-same
returns-in-Number-clause-same c =
    let world = c.args.world.now in let r = c.args.run.now in let st = c.args.store.now in
    let items = c.args.work.now.items in
    let k = with_value world (reverse items) r.frame r.env.items in
    let z : to_z w64 (of_z w64 c.from.result) ≡ c.from.result = search rules in
    ap (λ e. expr world (whole world) r.frame r.env.items e k st) (sym c.e.view_is ∙ ap exp_of c.in-Number.is)
    ∙ ap (λ v. tick (k v st)) (sym (z ∙ c.from.ensures))
    ∙ ap tick (sym (kept world (Value (to_z w64 (of_z w64 c.from.result))) items r st))

pub returns-in-Load-clause-same : goal.returns-in-Load-clause-same
returns-in-Load-clause-same c =
    let world = c.args.world.now in let r = c.args.run.now in let st = c.args.store.now in
    let items = c.args.work.now.items in
    let k = with_value world (reverse items) r.frame r.env.items in
    let z : to_z w64 (of_z w64 c.variable.result) ≡ c.variable.result = search rules in
    ap (λ e. expr world (whole world) r.frame r.env.items e k st) (sym c.e.view_is ∙ ap exp_of c.in-Load.is)
    ∙ ap (λ v. tick (k v st)) (sym (z ∙ c.variable.ensures))
    ∙ ap tick (sym (kept world (Value (to_z w64 (of_z w64 c.variable.result))) items r st))

pub returns-in-Element-clause-same : goal.returns-in-Element-clause-same
returns-in-Element-clause-same c =
    let world = c.args.world.now in let r = c.args.run.now in let st = c.args.store.now in
    let ws = reverse c.args.work.now.items in
    let k = with_value world ws r.frame r.env.items in
    let k' = with_value world (Index c.in-Element.row ∷ ws) r.frame r.env.items in
    IfOk-weaker c.after_tick.result _ _ (λ a h.
    ap (λ e. expr world (whole world) r.frame r.env.items e k st)
    (sym c.e.view_is ∙ ap exp_of c.in-Element.is)
    ∙ ap (λ e. tick (expr world (whole world) r.frame r.env.items e k' st)) (sym c.deref.ensures)
    ∙ h world r st) c.after_tick.ensures.same

pub returns-in-Call-clause-same : goal.returns-in-Call-clause-same
returns-in-Call-clause-same c =
    let world = c.args.world.now in let r = c.args.run.now in let st = c.args.store.now in
    let items = c.args.work.now.items in
    let k = with_value world (reverse items) r.frame r.env.items in
    let x = c.in-Call.call in
    ap (λ e. expr world (whole world) r.frame r.env.items e k st) (sym c.e.view_is ∙ ap exp_of c.in-Call.is)
    ∙ ap₂ (λ vs xs. tick (args world (whole world) r.frame r.env.items (args_of xs)
    (λ ys. call world (whole world) r.frame x.site (pair_of world r.frame.home r.env.items x.handle)
    (vs ++ ys) k) st)) (sym c.new.ensures.items) (sym c.as_slice.ensures)
    ∙ ap tick (sym (kept world (Args _ c.new.result c.as_slice.result) items r st))

pub returns-in-Binary-clause-same : goal.returns-in-Binary-clause-same
returns-in-Binary-clause-same c =
    let world = c.args.world.now in let r = c.args.run.now in let st = c.args.store.now in
    let k = with_value world (reverse c.args.work.now.items) r.frame r.env.items in
    let o = c.in-Binary.op in
    IfOk-weaker c.after_tick-in-Binary.result _ _ (λ a h.
    ap (λ e. expr world (whole world) r.frame r.env.items e k st) (sym c.e.view_is ∙ ap exp_of c.in-Binary.is)
    ∙ ap₂ (λ a b. tick (expr world (whole world) r.frame r.env.items a
    (λ x. expr world (whole world) r.frame r.env.items b (λ y. operated o x y k)) st))
    (sym c.deref-in-Binary.ensures) (sym c.deref-in-Binary-2.ensures)
    ∙ h world r st) c.after_tick-in-Binary.ensures.same
