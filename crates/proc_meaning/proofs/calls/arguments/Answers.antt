use Rattle.std.proofs.Common.{ℤ, List, [], ◌∷◌, ◌++◌, sym, ap, ◌∙◌, reverse}
use Rattle.std.proofs.lemmas.List.{append_assoc, append-nil, nil_from_length}
use Rattle.std.proofs.lemmas.Result.{IfOk-weaker}
use Rattle.proc_program.specs.View.{args_of}
use Rattle.proc_semantics.specs.declared.value.Value.{Value}
use Rattle.proc_semantics.specs.declared.value.Value.TheVariants.{Num, Closure, Other}
use Rattle.proc_semantics.specs.Told.{tick}
use Rattle.proc_semantics.specs.Values.{pair_of}
use Rattle.proc_semantics.specs.Meaning.{expr, args, call}
use Rattle.proc_semantics.specs.Whole.{whole}
use Rattle.proc_meaning.specs.Rest.{with_value, call_with}
use Rattle.proc_meaning.proofs.calls.arguments.Goals as goal

pub returns-in_default-clause-same : goal.returns-in_default-clause-same
returns-in_default-clause-same c =
    let world = c.args.world.now in let r = c.args.run.now in
    let f = r.frame in let env = r.env.items in let to = c.args.to.now in let vs = c.args.values.items in
    let k = with_value world (reverse c.args.work.now.items) f env in
    IfOk-weaker c.call.result _ _ (λ a h st.
    ap (λ l. call_with world f env to vs (args_of l) k st)
    (nil_from_length c.args.given.now c.in_default.ensures.cases)
    ∙ ap (λ l. call world (whole world) f to.site (pair_of world f.home env to.handle) l k st)
    (append-nil vs ∙ sym c.deref.ensures.value)
    ∙ h st) c.call.ensures.same

pub returns-in-Value-clause-same : goal.returns-in-Value-clause-same
returns-in-Value-clause-same c =
    let world = c.args.world.now in let r = c.args.run.now in
    let f = r.frame in let env = r.env.items in let to = c.args.to.now in let vs = c.args.values.items in
    let k = with_value world (reverse c.args.work.now.items) f env in let rest = c.in-Some.rest.now in
    IfOk-weaker c.at_once.result _ _ (λ a h st.
    ap (λ l. call_with world f env to vs (args_of l) k st)
    (c.in-Some.ensures.cases.0 ∙ ap (λ x. x ∷ rest) c.in-Value.is)
    ∙ ap (λ (g : ℤ → List Value → List Value). expr world (whole world) f env c.in-Value.e
    (λ v. args world (whole world) f env (args_of rest)
    (λ ys. call world (whole world) f to.site (pair_of world f.home env to.handle) (g v ys) k)) st)
    (λ i v ys. sym (append_assoc vs (Num v ∷ []) ys) i)
    ∙ h world r st) c.at_once.ensures.same

pub returns-in-Pass-clause-same : goal.returns-in-Pass-clause-same
returns-in-Pass-clause-same c =
    let world = c.args.world.now in let r = c.args.run.now in
    let f = r.frame in let env = r.env.items in let to = c.args.to.now in let vs = c.args.values.items in
    let items = c.args.work.now.items in
    let k = with_value world (reverse items) f env in let rest = c.in-Some.rest.now in
    let p = pair_of world f.home env c.in-Pass.handle in
    IfOk-weaker c.with_pair.result _ _ (λ a h st.
    ap (λ l. call_with world f env to vs (args_of l) k st)
    (c.in-Some.ensures.cases.0 ∙ ap (λ x. x ∷ rest) c.in-Pass.is)
    ∙ ap (λ (g : List Value → List Value).
    tick (args world (whole world) f env (args_of rest)
    (λ ys. call world (whole world) f to.site (pair_of world f.home env to.handle) (g ys) k) st))
    (λ i ys. sym (append_assoc vs (Closure p ∷ Other ∷ []) ys) i)
    ∙ ap (λ p. tick (call_with world f env to (vs ++ Closure p ∷ Other ∷ []) (args_of rest) k st))
    (sym c.pair_of.ensures)
    ∙ h world items r st) c.with_pair.ensures.same
