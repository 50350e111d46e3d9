use Rattle.std.proofs.Common.{rules, ◌≡◌, sym, ap, ◌∙◌, subst, reverse, w64, to_z, of_z}
use Rattle.std.proofs.lemmas.Result.{IfOk-weaker}
use Rattle.proc_meaning.specs.declared.work.Now.TheVariants as now
use Rattle.proc_semantics.specs.Meaning.{expr, left_by, part_name_of}
use Rattle.proc_semantics.specs.Whole.{whole}
use Rattle.proc_meaning.specs.Rest.{with_value, back, ended, waiting, rest_now, ahead_of}
use Rattle.proc_meaning.proofs.Works.{kept}
use Rattle.proc_semantics.proofs.Offers.{recursive}
use Rattle.proc_meaning.proofs.turns.turn.Goals as goal

pub returns-in-Eval-clause-same : goal.returns-in-Eval-clause-same
returns-in-Eval-clause-same c =
    let world = c.args.world.now in let items = c.args.work.now.items in let r = c.args.run.now in
    let st = c.args.store.now.items in
    let e = c.in-Eval.e in
    IfOk-weaker c.eval.result _ _ (λ a h.
    ap (λ n. rest_now world n items r st) c.in-Eval.is ∙ kept world (now.Eval e) items r st
    ∙ subst (λ s. expr world (whole world) r.frame r.env.items e.now
    (with_value world (reverse items) r.frame r.env.items) s
    ≡ ahead_of world a c.eval.new.work.items r s) c.deref.ensures.value h) c.eval.ensures.same

pub returns-in-Args-clause-same : goal.returns-in-Args-clause-same
returns-in-Args-clause-same c =
    let world = c.args.world.now in let items = c.args.work.now.items in let r = c.args.run.now in
    let st = c.args.store.now.items in
    IfOk-weaker c.arguments.result _ _ (λ a h.
    ap (λ n. rest_now world n items r st) c.in-Args.is
    ∙ kept world (now.Args c.in-Args.to c.in-Args.values c.in-Args.args) items r st
    ∙ h st) c.arguments.ensures.same

pub returns-in-Value-clause-same : goal.returns-in-Value-clause-same
returns-in-Value-clause-same c =
    let world = c.args.world.now in let items = c.args.work.now.items in let r = c.args.run.now in
    let st = c.args.store.now.items in
    let z : to_z w64 (of_z w64 c.in-Value.v) ≡ c.in-Value.v = search rules in
    IfOk-weaker c.give.result _ _ (λ a h.
    ap (λ n. rest_now world n items r st) c.in-Value.is ∙ kept world (now.Value c.in-Value.v) items r st
    ∙ ap (λ x. with_value world (reverse items) r.frame r.env.items x st) (sym z)
    ∙ h world) c.give.ensures.same

pub returns-in-Next-clause-same : goal.returns-in-Next-clause-same
returns-in-Next-clause-same c =
    let world = c.args.world.now in let items = c.args.work.now.items in let r = c.args.run.now in
    let st = c.args.store.now.items in
    IfOk-weaker c.next.result _ _ (λ a h.
    ap (λ n. rest_now world n items r st) c.in-Next.is ∙ kept world now.Next items r st
    ∙ h world st) c.next.ensures.same

pub returns-in-Back-clause-same : goal.returns-in-Back-clause-same
returns-in-Back-clause-same c =
    let world = c.args.world.now in let items = c.args.work.now.items in let r = c.args.run.now in
    let st = c.args.store.now.items in
    let z : to_z w64 (of_z w64 c.in-Back.v) ≡ c.in-Back.v = search rules in
    ap (λ n. rest_now world n items r st) c.in-Back.is ∙ kept world (now.Back c.in-Back.v) items r st
    ∙ ap (λ x. back world (reverse items) r.frame x st) (sym z)
    ∙ c.give_back.ensures.same world st

pub returns-in-Left-clause-same : goal.returns-in-Left-clause-same
returns-in-Left-clause-same c =
    let world = c.args.world.now in let items = c.args.work.now.items in let r = c.args.run.now in
    let st = c.args.store.now.items in
    let x = c.in-Left in
    let z : to_z w64 (of_z w64 x.v) ≡ x.v = search rules in
    IfOk-weaker c.leave.result _ _ (λ a h.
    ap (λ n. rest_now world n items r st) x.is ∙ kept world (now.Left x.home x.left x.way x.v) items r st
    ∙ ap (λ v. left_by world (whole world) (part_name_of world x.home)
    (waiting world (reverse items)) x.left x.way.now v st) (sym z)
    ∙ h st) c.leave.ensures.same

pub returns-in-Begin-clause-same : goal.returns-in-Begin-clause-same
returns-in-Begin-clause-same c =
    let world = c.args.world.now in let items = c.args.work.now.items in let r = c.args.run.now in
    let st = c.args.store.now.items in
    let x = c.in-Begin in
    IfOk-weaker c.begin.result _ _ (λ a h.
    ap (λ n. rest_now world n items r st) x.is
    ∙ kept world (now.Begin x.target x.left x.registers x.whence) items r st
    ∙ ap (λ rs. (whole world).proc x.target x.left rs (ended world x.whence (reverse items)) st)
    (sym c.deref-in-Begin.ensures.value)
    ∙ h st) c.begin.ensures.same

pub returns-in-Wait-clause-same : goal.returns-in-Wait-clause-same
returns-in-Wait-clause-same c =
    let world = c.args.world.now in let items = c.args.work.now.items in let r = c.args.run.now in
    let st = c.args.store.now.items in
    ap (λ n. rest_now world n items r st) c.in-Wait.is ∙ kept world now.Wait items r st
    ∙ (recursive world).waits (waiting world (reverse items)) st

pub returns-in-Take-clause-same : goal.returns-in-Take-clause-same
returns-in-Take-clause-same c =
    let world = c.args.world.now in let items = c.args.work.now.items in let r = c.args.run.now in
    let st = c.args.store.now.items in
    IfOk-weaker c.take.result _ _ (λ a h.
    ap (λ n. rest_now world n items r st) c.in-Take.is ∙ kept world (now.Take c.in-Take.item) items r st
    ∙ h st) c.take.ensures.same

pub returns-in-Fail-clause-same : goal.returns-in-Fail-clause-same
returns-in-Fail-clause-same c =
    let world = c.args.world.now in let items = c.args.work.now.items in let r = c.args.run.now in
    let st = c.args.store.now.items in
    ap (λ n. rest_now world n items r st) c.in-Fail.is ∙ kept world now.Fail items r st
